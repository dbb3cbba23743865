use Rattle.std.proofs.Common.{◌≡◌, codes, inl, inr, refl, sym, ◌∙◌, arith}
use Rattle.tcp_edge.proofs.Arguments.{done_by, if_table, if_merge, if_session, if_replay, if_serve, if_start, if_check, table_fault, merge_fault, replay_fault, check_memory, session_is_no_start, serve_is_no_start, topic_or_memory, unfit_or_memory, refused_left, refused_topic, mistake_stops, help_stops, helped, no_help, parsed_ok, parsed_err}
use Rattle.listeners.proofs.Below.{table_out_of_memory, merge_out_of_memory}
use Rattle.tcp_edge.proofs.command_line.CommandLine.run.Goals as goal

-- ---- what was asked for is done

pub returns-in-Ok-clause-done_prints_help_or_table_or_merge_or_serves_or_replays : goal.returns-in-Ok-clause-done_prints_help_or_table_or_merge_or_serves_or_replays
returns-in-Ok-clause-done_prints_help_or_table_or_merge_or_serves_or_replays g c =
    let line = parsed_ok _ c.args.self _ c.in-Ok.asked c.self.view_is c.in-Ok.is c.self.invariant in
    done_by c.args.self c.in-Ok.asked c.run_asked.result _ _ _ _ _
    c.run_asked.ensures.table (λ t. t.prints_table) c.run_asked.ensures.merge (λ m. m.prints_the_merge) c.run_asked.ensures.left_is_faulty line.named

pub returns-in-Ok-clause-table : goal.returns-in-Ok-clause-table
returns-in-Ok-clause-table g c =
    let line = parsed_ok _ c.args.self _ c.in-Ok.asked c.self.view_is c.in-Ok.is c.self.invariant in
    λ asks. if_table c.args.self c.in-Ok.asked _ asks line.asked c.run_asked.ensures.table

pub returns-in-Ok-clause-merge : goal.returns-in-Ok-clause-merge
returns-in-Ok-clause-merge g c =
    let line = parsed_ok _ c.args.self _ c.in-Ok.asked c.self.view_is c.in-Ok.is c.self.invariant in
    λ asks. if_merge c.args.self c.in-Ok.asked _ asks line.asked c.run_asked.ensures.merge

pub returns-in-Ok-clause-session : goal.returns-in-Ok-clause-session
returns-in-Ok-clause-session g c =
    let line = parsed_ok _ c.args.self _ c.in-Ok.asked c.self.view_is c.in-Ok.is c.self.invariant in
    λ rows finds _.
    inr (if_session rows c.in-Ok.asked _ (line.asked (codes "session") rows finds) c.run_asked.ensures.session)

pub returns-in-Ok-clause-session_fault_has_a_cause : goal.returns-in-Ok-clause-session_fault_has_a_cause
returns-in-Ok-clause-session_fault_has_a_cause g c =
    let line = parsed_ok _ c.args.self _ c.in-Ok.asked c.self.view_is c.in-Ok.is c.self.invariant in
    λ rows finds two.
    let run = if_session rows c.in-Ok.asked _ (line.asked (codes "session") rows finds) c.run_asked.ensures.session in
    inr (run.0, run.1, (run.2.is_faulty two).0)

pub returns-in-Ok-clause-mistake_is_refused : goal.returns-in-Ok-clause-mistake_is_refused
returns-in-Ok-clause-mistake_is_refused g c =
    let line = parsed_ok _ c.args.self _ c.in-Ok.asked c.self.view_is c.in-Ok.is c.self.invariant in
    λ mistake. absurd (line.stopped mistake.kinds mistake.stops)

pub returns-in-Ok-clause-serve_is_left : goal.returns-in-Ok-clause-serve_is_left
returns-in-Ok-clause-serve_is_left g c =
    let line = parsed_ok _ c.args.self _ c.in-Ok.asked c.self.view_is c.in-Ok.is c.self.invariant in
    λ rows finds.
    let two : c.run_asked.result ≡ 2 = if_serve rows c.in-Ok.asked _ (line.asked (codes "serve") rows finds) c.run_asked.ensures.left_is_faulty in
    let nothing = if_serve rows c.in-Ok.asked _ (line.asked (codes "serve") rows finds) c.run_asked.ensures.left_does_nothing in
    (omega (arith, two), omega (arith, two), nothing.0)

pub returns-in-Ok-clause-start_is_left : goal.returns-in-Ok-clause-start_is_left
returns-in-Ok-clause-start_is_left g c =
    let line = parsed_ok _ c.args.self _ c.in-Ok.asked c.self.view_is c.in-Ok.is c.self.invariant in
    λ rows finds.
    let two : c.run_asked.result ≡ 2 = if_start rows c.in-Ok.asked _ (line.asked (codes "start") rows finds) c.run_asked.ensures.left_is_faulty in
    let nothing = if_start rows c.in-Ok.asked _ (line.asked (codes "start") rows finds) c.run_asked.ensures.left_does_nothing in
    (omega (arith, two), omega (arith, two), nothing.0)

pub returns-in-Ok-clause-start_says_nothing : goal.returns-in-Ok-clause-start_says_nothing
returns-in-Ok-clause-start_says_nothing g c =
    let line = parsed_ok _ c.args.self _ c.in-Ok.asked c.self.view_is c.in-Ok.is c.self.invariant in
    λ rows finds fit two.
    (if_start rows c.in-Ok.asked _ (line.asked (codes "start") rows finds) c.run_asked.ensures.left_does_nothing).1

pub returns-in-Ok-clause-check_is_left : goal.returns-in-Ok-clause-check_is_left
returns-in-Ok-clause-check_is_left g c =
    let line = parsed_ok _ c.args.self _ c.in-Ok.asked c.self.view_is c.in-Ok.is c.self.invariant in
    λ rows finds.
    let two : c.run_asked.result ≡ 2 = if_check rows c.in-Ok.asked _ (line.asked (codes "check") rows finds) c.run_asked.ensures.left_is_faulty in
    let nothing = if_check rows c.in-Ok.asked _ (line.asked (codes "check") rows finds) c.run_asked.ensures.left_does_nothing in
    (omega (arith, two), omega (arith, two), nothing.0)

pub returns-in-Ok-clause-check_says_nothing : goal.returns-in-Ok-clause-check_says_nothing
returns-in-Ok-clause-check_says_nothing g c =
    let line = parsed_ok _ c.args.self _ c.in-Ok.asked c.self.view_is c.in-Ok.is c.self.invariant in
    λ rows finds two.
    (if_check rows c.in-Ok.asked _ (line.asked (codes "check") rows finds) c.run_asked.ensures.left_does_nothing).1

pub returns-in-Ok-clause-replay_is_no_fault : goal.returns-in-Ok-clause-replay_is_no_fault
returns-in-Ok-clause-replay_is_no_fault g c =
    let line = parsed_ok _ c.args.self _ c.in-Ok.asked c.self.view_is c.in-Ok.is c.self.invariant in
    λ rows finds.
    if_replay rows c.in-Ok.asked _ (line.asked (codes "replay") rows finds) c.run_asked.ensures.replay_is_no_fault

pub returns-in-Ok-clause-help_is_no_fault : goal.returns-in-Ok-clause-help_is_no_fault
returns-in-Ok-clause-help_is_no_fault g c =
    let line = parsed_ok _ c.args.self _ c.in-Ok.asked c.self.view_is c.in-Ok.is c.self.invariant in
    λ asks. absurd (no_help c.args.self asks line.stopped)

pub returns-in-Ok-clause-serve_says_nothing : goal.returns-in-Ok-clause-serve_says_nothing
returns-in-Ok-clause-serve_says_nothing g c =
    let line = parsed_ok _ c.args.self _ c.in-Ok.asked c.self.view_is c.in-Ok.is c.self.invariant in
    λ rows finds topics two.
    (if_serve rows c.in-Ok.asked _ (line.asked (codes "serve") rows finds) c.run_asked.ensures.left_does_nothing).1

-- ---- the command line is refused, or memory ran out

pub returns-in-Err-clause-table : goal.returns-in-Err-clause-table
returns-in-Err-clause-table g c =
    let line = parsed_err _ c.args.self _ c.in-Err.why c.self.view_is c.in-Err.is c.self.invariant in
    λ asks.
    let three = c.refuse_line.ensures.out_of_memory (table_fault c.args.self c.in-Err.why asks line.asked) in
    table_out_of_memory c.args.source.now c.args.sink.now c.refuse_line.new.sink c.refuse_line.result three (c.refuse_line.ensures.out_of_memory_prints_nothing three)

pub returns-in-Err-clause-merge : goal.returns-in-Err-clause-merge
returns-in-Err-clause-merge g c =
    let line = parsed_err _ c.args.self _ c.in-Err.why c.self.view_is c.in-Err.is c.self.invariant in
    λ asks.
    let three = c.refuse_line.ensures.out_of_memory (merge_fault c.args.self c.in-Err.why asks line.asked) in
    merge_out_of_memory c.args.source.now c.args.sink.now c.refuse_line.new.sink c.refuse_line.result three (c.refuse_line.ensures.out_of_memory_prints_nothing three)

pub returns-in-Err-clause-session_fault_has_a_cause : goal.returns-in-Err-clause-session_fault_has_a_cause
returns-in-Err-clause-session_fault_has_a_cause g c =
    let line = parsed_err _ c.args.self _ c.in-Err.why c.self.view_is c.in-Err.is c.self.invariant in
    λ rows finds two.
    inl (refused_topic c.in-Err.why c.refuse_line.result _ (topic_or_memory (codes "session") rows c.in-Err.why session_is_no_start (line.asked (codes "session") rows finds)) c.refuse_line.ensures.out_of_memory two)

pub returns-in-Err-clause-session : goal.returns-in-Err-clause-session
returns-in-Err-clause-session g c =
    let line = parsed_err _ c.args.self _ c.in-Err.why c.self.view_is c.in-Err.is c.self.invariant in
    λ rows finds other.
    let left = refused_left c.in-Err.why c.refuse_line.result (c.refuse_line.new.sink ≡ c.args.sink.now) _ (topic_or_memory (codes "session") rows c.in-Err.why session_is_no_start (line.asked (codes "session") rows finds))
    c.refuse_line.ensures.out_of_memory c.refuse_line.ensures.out_of_memory_prints_nothing c.refuse_line.ensures.bad_value in
    inl (omega (arith, left.0, left.1, other), (refl, left.2))

pub returns-in-Err-clause-serve_is_left : goal.returns-in-Err-clause-serve_is_left
returns-in-Err-clause-serve_is_left g c =
    let line = parsed_err _ c.args.self _ c.in-Err.why c.self.view_is c.in-Err.is c.self.invariant in
    λ rows finds.
    let left = refused_left c.in-Err.why c.refuse_line.result (c.refuse_line.new.sink ≡ c.args.sink.now) _ (topic_or_memory (codes "serve") rows c.in-Err.why serve_is_no_start (line.asked (codes "serve") rows finds))
    c.refuse_line.ensures.out_of_memory c.refuse_line.ensures.out_of_memory_prints_nothing c.refuse_line.ensures.bad_value in
    (left.0, left.1, (refl, left.2))

pub returns-in-Err-clause-start_is_left : goal.returns-in-Err-clause-start_is_left
returns-in-Err-clause-start_is_left g c =
    let line = parsed_err _ c.args.self _ c.in-Err.why c.self.view_is c.in-Err.is c.self.invariant in
    λ rows finds.
    let left = refused_left c.in-Err.why c.refuse_line.result (c.refuse_line.new.sink ≡ c.args.sink.now) _ (unfit_or_memory (codes "start") rows c.in-Err.why (line.asked (codes "start") rows finds))
    c.refuse_line.ensures.out_of_memory c.refuse_line.ensures.out_of_memory_prints_nothing c.refuse_line.ensures.bad_value in
    (left.0, left.1, (refl, left.2))

pub returns-in-Err-clause-start_says_nothing : goal.returns-in-Err-clause-start_says_nothing
returns-in-Err-clause-start_says_nothing g c =
    let line = parsed_err _ c.args.self _ c.in-Err.why c.self.view_is c.in-Err.is c.self.invariant in
    λ rows finds fit two.
    absurd (fit (refused_topic c.in-Err.why c.refuse_line.result _ (unfit_or_memory (codes "start") rows c.in-Err.why (line.asked (codes "start") rows finds)) c.refuse_line.ensures.out_of_memory two))

pub returns-in-Err-clause-mistake_is_refused : goal.returns-in-Err-clause-mistake_is_refused
returns-in-Err-clause-mistake_is_refused g c =
    let line = parsed_err _ c.args.self _ c.in-Err.why c.self.view_is c.in-Err.is c.self.invariant in
    λ mistake.
    let refused = c.refuse_line.ensures.mistake (mistake_stops c.args.self c.in-Err.why mistake line.stopped) in
    (refused.0, (refl, refused.1))

pub returns-in-Err-clause-replay_is_no_fault : goal.returns-in-Err-clause-replay_is_no_fault
returns-in-Err-clause-replay_is_no_fault g c =
    let line = parsed_err _ c.args.self _ c.in-Err.why c.self.view_is c.in-Err.is c.self.invariant in
    λ rows finds status.
    let three = c.refuse_line.ensures.out_of_memory (replay_fault rows c.in-Err.why (line.asked (codes "replay") rows finds)) in
    let bad : 2 ≡ 3 = sym status ∙ three in absurd (omega arith)

pub returns-in-Err-clause-check_is_left : goal.returns-in-Err-clause-check_is_left
returns-in-Err-clause-check_is_left g c =
    let line = parsed_err _ c.args.self _ c.in-Err.why c.self.view_is c.in-Err.is c.self.invariant in
    λ rows finds.
    let three = c.refuse_line.ensures.out_of_memory (check_memory rows c.in-Err.why (line.asked (codes "check") rows finds)) in
    (omega (arith, three), omega (arith, three), (refl, c.refuse_line.ensures.out_of_memory_prints_nothing three))

pub returns-in-Err-clause-check_says_nothing : goal.returns-in-Err-clause-check_says_nothing
returns-in-Err-clause-check_says_nothing g c =
    let line = parsed_err _ c.args.self _ c.in-Err.why c.self.view_is c.in-Err.is c.self.invariant in
    λ rows finds status.
    let three = c.refuse_line.ensures.out_of_memory (check_memory rows c.in-Err.why (line.asked (codes "check") rows finds)) in
    let bad : 2 ≡ 3 = sym status ∙ three in absurd (omega arith)

pub returns-in-Err-clause-serve_says_nothing : goal.returns-in-Err-clause-serve_says_nothing
returns-in-Err-clause-serve_says_nothing g c =
    let line = parsed_err _ c.args.self _ c.in-Err.why c.self.view_is c.in-Err.is c.self.invariant in
    λ rows finds topics two.
    absurd (refused_topic c.in-Err.why c.refuse_line.result _ (topic_or_memory (codes "serve") rows c.in-Err.why serve_is_no_start (line.asked (codes "serve") rows finds)) c.refuse_line.ensures.out_of_memory two topics)

pub returns-in-Err-clause-help_is_no_fault : goal.returns-in-Err-clause-help_is_no_fault
returns-in-Err-clause-help_is_no_fault g c =
    let line = parsed_err _ c.args.self _ c.in-Err.why c.self.view_is c.in-Err.is c.self.invariant in
    λ asks. (
      c.refuse_line.ensures.is_status.1,
      helped c.in-Err.why c.refuse_line.result (help_stops c.args.self c.in-Err.why asks line.stopped)
          c.refuse_line.ensures.out_of_memory c.refuse_line.ensures.help,
      refl,
      c.refuse_line.ensures.done_has_not_failed,
      c.refuse_line.ensures.out_of_memory_prints_nothing,
    )
