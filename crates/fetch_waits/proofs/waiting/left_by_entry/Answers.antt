use Rattle.std.proofs.Common.{◌≡◌, ◌<◌, FitsSigned, w32, length, rules}
use Rattle.std.proofs.lemmas.Int.{to_z-of_z}
use Rattle.log_requests.specs.Fetch.Entries.{fetch_entry_value}
use Rattle.log_requests.proofs.FetchEntries.{entry_refused}
use Rattle.fetch_waits.specs.Waiting.Entries.{room_of}
use Rattle.fetch_waits.proofs.Entry.{entry_failed_left, entry_cut, entry_whole, is_fault}
use Rattle.fetch_waits.proofs.waiting.left_by_entry.Goals as goal

pub returns-in_default : goal.returns-in_default
returns-in_default g c =
    let fits : FitsSigned w32 c.args.entry.partition = search rules in
    let room = room_of c.args.awaited c.args.missing in
    let answered = entry_refused c.args.state.now c.args.topic.now room (fetch_entry_value c.args.entry) _ (to_z-of_z w32 c.args.entry.partition fits) c.in_default.field-0 c.in_default.ensures.refuses in
    entry_failed_left c.args.state.now c.args.topic.now c.args.awaited c.args.missing (fetch_entry_value c.args.entry) _ answered (is_fault c.in_default.field-0)

pub returns-then-run-kept : goal.returns-then-run-kept
returns-then-run-kept g c =
    let fits : FitsSigned w32 c.args.entry.partition = search rules in
    let copy = c.in-Ok.copy.now in
    let run = c.in-Ok-run_within.run' in
    let found = c.in-Ok-run_within.ensures in
    let before : run.end < length copy.kept = search rules in
    entry_cut c.args.state.now c.args.topic.now c.args.awaited c.args.missing (fetch_entry_value c.args.entry) _ (to_z-of_z w32 c.args.entry.partition fits) copy c.in-Ok.ensures.leads c.in-Ok.ensures.is_there found.in_range
    run.start run.end found.starts found.ends before

pub returns : goal.returns
returns g c =
    let fits : FitsSigned w32 c.args.entry.partition = search rules in
    let copy = c.in-Ok.copy.now in
    let run = c.in-Ok-run_within.run' in
    let found = c.in-Ok-run_within.ensures in
    let all : run.end ≡ length copy.kept = search rules in
    entry_whole c.args.state.now c.args.topic.now c.args.awaited c.args.missing (fetch_entry_value c.args.entry) _ (to_z-of_z w32 c.args.entry.partition fits) copy c.in-Ok.ensures.leads c.in-Ok.ensures.is_there found.in_range
    run.start run.end found.starts found.ends c.left_by_run.result all c.left_by_run.ensures
