use Rattle.std.proofs.Common.{◌≡◌, ◌<◌, true, false, length, rules}
use Rattle.frame_fields.specs.Frames.{IsIncomplete}
use Rattle.broker_state.specs.Sound.{IsSound}
use Rattle.sessions.specs.Turns.{is_over}
use Rattle.sessions.specs.Steps.{AnswersNext, WaitsNext}
use Rattle.sessions.proofs.Turning.{turn_ends, turn_leaves_off, turn_short, turning_then}
use Rattle.sessions.proofs.Watching.{nobody_named, others_then, watch_answered, watch_same, watch_then, watch_waiting, watching_answered, watching_then}
use Rattle.sessions.proofs.session.Session.turn.Goals as goal

pub returns-in-Ok-Short-clause-turns : goal.returns-in-Ok-Short-clause-turns
returns-in-Ok-Short-clause-turns g c =
    let short : (c.answer_next.new.node ≡ c.loop-now.node) × (c.answer_next.new.self ≡ c.loop-now.self) × IsIncomplete c.answer_next.new.self.held = search rules in
    turn_short _ _ _ _ _ _ _ _ _ c.loop-now.invariant.0 short

pub returns-in-Ok-Waits-clause-turns : goal.returns-in-Ok-Waits-clause-turns
returns-in-Ok-Waits-clause-turns g c =
    let waits : WaitsNext c.args.now.clock c.args.now.has_ended c.loop-now.node c.loop-now.self c.answer_next.new.node c.answer_next.new.self c.in-Ok-Waits.field-0-0 = search rules in
    let less : length c.loop-now.self.owed < c.args.most_owed = search rules in
    turn_ends c.args.most_owed _ _ _ _ _ _ _ _ _ _ c.loop-now.invariant.0 less waits c.wait.ensures.stops

pub loop-now-preserved : goal.loop-now-preserved
loop-now-preserved g c =
    let less : length c.loop-now.self.owed < c.args.most_owed = search rules in
    let cheap : c.in-Ok-Answered.is_dear ≡ false = search rules in
    let answers : AnswersNext c.in-Ok-Answered.is_dear c.args.now.has_ended (is_over c.args.now.clock c.loop-now.self.due) c.loop-now.node c.loop-now.self c.answer_next.new.node c.answer_next.new.self = search rules in
    let shown : c.as_slice.result.now ≡ c.loop-now.self.held = search rules in
    let sound : IsSound c.loop-now.node = search rules in
    let one = watching_answered c.args.now.number c.note-noted.result c.loop-now.node c.answer_next.new.node c.loop-now.waiting c.note-noted.new.self c.pass.new.self c.loop-now.self c.answer_next.new.self c.as_slice.result.now shown
    c.in-Ok-Answered.is_dear c.args.now.has_ended (is_over c.args.now.clock c.loop-now.self.due) sound answers c.note-noted.ensures.marks c.note-noted.ensures.waits c.note-noted.ensures.wait_on c.pass.ensures.wait_on c.pass.ensures.waits_no_more c.pass.ensures.others in
    let answered = watching_then c.args.now.number _ _ _ _ _ _ _ _ _ c.loop-now.invariant.2 one in (
      turning_then c.args.most_owed c.args.now.clock c.in-Ok-Answered.is_dear c.args.now.has_ended _ _ _ _ _ _ c.loop-now.invariant.0 less answers cheap,
      g.met.H.Handler.others_handled _ _ _ _ _ _ c.loop-now.invariant.1 c.answer_next.ensures.keeps,
      answered,
    )

pub returns-then-is_dear-clause-turns : goal.returns-then-is_dear-clause-turns
returns-then-is_dear-clause-turns g c =
    let less : length c.loop-now.self.owed < c.args.most_owed = search rules in
    let dear : c.in-Ok-Answered.is_dear ≡ true = search rules in
    let answers : AnswersNext c.in-Ok-Answered.is_dear c.args.now.has_ended (is_over c.args.now.clock c.loop-now.self.due) c.loop-now.node c.loop-now.self c.answer_next.new.node c.answer_next.new.self = search rules in
    turn_leaves_off c.args.most_owed c.args.now.clock _ _ _ _ _ _ _ _ _ c.loop-now.invariant.0 less answers dear c.leave_off.ensures.stops

pub returns-then-is_dear-clause-watches : goal.returns-then-is_dear-clause-watches
returns-then-is_dear-clause-watches g c =
    let answers : AnswersNext c.in-Ok-Answered.is_dear c.args.now.has_ended (is_over c.args.now.clock c.loop-now.self.due) c.loop-now.node c.loop-now.self c.answer_next.new.node c.answer_next.new.self = search rules in
    let shown : c.as_slice.result.now ≡ c.loop-now.self.held = search rules in
    let sound : IsSound c.loop-now.node = search rules in
    let one = watch_answered c.args.now.number c.note-noted.result c.loop-now.node c.answer_next.new.node c.loop-now.waiting c.note-noted.new.self c.pass.new.self c.loop-now.self c.answer_next.new.self c.as_slice.result.now shown
    c.in-Ok-Answered.is_dear c.args.now.has_ended (is_over c.args.now.clock c.loop-now.self.due) sound answers c.note-noted.ensures.marks c.note-noted.ensures.wait_on c.pass.ensures.wait_on c.pass.ensures.waits_no_more in
    watch_then c.args.now.number _ _ _ _ _ _ _ _ _ c.loop-now.invariant.2.keeps one

pub returns-then-is_dear-clause-others : goal.returns-then-is_dear-clause-others
returns-then-is_dear-clause-others g c =
    others_then c.args.now.number c.args.waiting.now.waits c.loop-now.waiting.waits c.pass.new.self.waits c.loop-now.invariant.2.others
    (others_then c.args.now.number c.loop-now.waiting.waits c.note-noted.new.self.waits c.pass.new.self.waits (nobody_named c.args.now.number c.loop-now.waiting.waits c.note-noted.new.self.waits c.note-noted.ensures.waits) c.pass.ensures.others)

pub returns-in-Ok-Short-clause-watches : goal.returns-in-Ok-Short-clause-watches
returns-in-Ok-Short-clause-watches g c =
    let short : (c.answer_next.new.node ≡ c.loop-now.node) × (c.answer_next.new.self ≡ c.loop-now.self) × IsIncomplete c.answer_next.new.self.held = search rules in
    watch_then c.args.now.number _ _ _ _ _ _ _ _ _ c.loop-now.invariant.2.keeps
    (watch_same c.args.now.number c.loop-now.node c.answer_next.new.node c.loop-now.waiting c.note-noted.new.self c.loop-now.self c.answer_next.new.self short.0 short.1 c.note-noted.ensures.waits c.note-noted.ensures.wait_on)

pub returns-in-Ok-Short-clause-others : goal.returns-in-Ok-Short-clause-others
returns-in-Ok-Short-clause-others g c =
    others_then c.args.now.number c.args.waiting.now.waits c.loop-now.waiting.waits c.note-noted.new.self.waits c.loop-now.invariant.2.others (nobody_named c.args.now.number c.loop-now.waiting.waits c.note-noted.new.self.waits c.note-noted.ensures.waits)

pub returns-in-Err-clause-watches : goal.returns-in-Err-clause-watches
returns-in-Err-clause-watches g c =
    let same : (c.answer_next.new.node ≡ c.loop-now.node) × (c.answer_next.new.self ≡ c.loop-now.self) = search rules in
    watch_then c.args.now.number _ _ _ _ _ _ _ _ _ c.loop-now.invariant.2.keeps
    (watch_same c.args.now.number c.loop-now.node c.answer_next.new.node c.loop-now.waiting c.note-noted.new.self c.loop-now.self c.answer_next.new.self same.0 same.1 c.note-noted.ensures.waits c.note-noted.ensures.wait_on)

pub returns-in-Err-clause-others : goal.returns-in-Err-clause-others
returns-in-Err-clause-others g c =
    others_then c.args.now.number c.args.waiting.now.waits c.loop-now.waiting.waits c.note-noted.new.self.waits c.loop-now.invariant.2.others (nobody_named c.args.now.number c.loop-now.waiting.waits c.note-noted.new.self.waits c.note-noted.ensures.waits)

pub returns-in-Ok-Waits-clause-watches : goal.returns-in-Ok-Waits-clause-watches
returns-in-Ok-Waits-clause-watches g c =
    let waits : WaitsNext c.args.now.clock c.args.now.has_ended c.loop-now.node c.loop-now.self c.answer_next.new.node c.answer_next.new.self c.in-Ok-Waits.field-0-0 = search rules in
    watch_then c.args.now.number _ _ _ _ _ _ _ _ _ c.loop-now.invariant.2.keeps
    (watch_waiting c.args.now.number c.args.now.clock c.args.now.has_ended c.in-Ok-Waits.field-0-0 c.loop-now.node c.answer_next.new.node c.loop-now.waiting c.note-noted.new.self c.wait.new.waiting c.loop-now.self c.answer_next.new.self
    waits c.note-noted.ensures.waits c.note-noted.ensures.wait_on c.wait.ensures.watches)

pub returns-in-Ok-Waits-clause-others : goal.returns-in-Ok-Waits-clause-others
returns-in-Ok-Waits-clause-others g c =
    others_then c.args.now.number c.args.waiting.now.waits c.loop-now.waiting.waits c.wait.new.waiting.waits c.loop-now.invariant.2.others
    (others_then c.args.now.number c.loop-now.waiting.waits c.note-noted.new.self.waits c.wait.new.waiting.waits (nobody_named c.args.now.number c.loop-now.waiting.waits c.note-noted.new.self.waits c.note-noted.ensures.waits) c.wait.ensures.others)
