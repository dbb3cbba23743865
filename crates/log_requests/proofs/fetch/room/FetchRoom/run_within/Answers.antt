use Rattle.std.proofs.Common.{FitsSigned, w32, w64, rules}
use Rattle.std.proofs.lemmas.Int.{to_z-of_z}
use Rattle.log_requests.specs.Fetch.Entries.{fetch_entry_value}
use Rattle.log_requests.proofs.FetchRuns.{runs_small, run_of_room, inside_range, outside_range}
use Rattle.answering.proofs.Begun.{on_ok, on_err}
use Rattle.log_requests.proofs.fetch.room.FetchRoom.run_within.Goals as goal

pub returns-clause-gives : goal.returns-clause-gives
returns-clause-gives g c =
    let offset : FitsSigned w64 c.args.entry.offset = search rules in
    let most : FitsSigned w32 c.args.entry.max_bytes = search rules in
    run_of_room c.args.self.now _ c.args.copy.now (fetch_entry_value c.args.entry) _ _ c.fetch.result c.self.view_is (to_z-of_z w64 c.args.entry.offset offset)
    c.fetch.ensures.from_offset c.fetch.ensures.as_many_as_fit (cc (to_z-of_z w32 c.args.entry.max_bytes most))

pub returns-clause-in_range : goal.returns-clause-in_range
returns-clause-in_range g c =
    let offset : FitsSigned w64 c.args.entry.offset = search rules in
    on_ok c.fetch.result (inside_range c.args.copy.now c.args.entry.offset _ (to_z-of_z w64 c.args.entry.offset offset)) c.fetch.ensures.in_range

pub returns-clause-out_of_range : goal.returns-clause-out_of_range
returns-clause-out_of_range g c =
    let offset : FitsSigned w64 c.args.entry.offset = search rules in
    on_err c.fetch.result (outside_range c.args.copy.now c.args.entry.offset _ (to_z-of_z w64 c.args.entry.offset offset)) c.fetch.ensures.out_of_range

pub returns-clause-small : goal.returns-clause-small
returns-clause-small g c =
    let most : FitsSigned w32 c.args.entry.max_bytes = search rules in
    runs_small c.args.copy.now c.args.entry.max_bytes c.self.inside.left _ _ c.fetch.result most c.fetch.ensures.as_many_as_fit (cc (to_z-of_z w32 c.args.entry.max_bytes most))
