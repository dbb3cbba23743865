use Rattle.std.proofs.Common.{FitsSigned, w32, w64, min, rules}
use Rattle.std.proofs.lemmas.Int.{to_z-of_z}
use Rattle.log_requests.specs.Fetch.{fetch_limit}
use Rattle.log_requests.proofs.FetchRuns.{inside_range, outside_range}
use Rattle.answering.proofs.Begun.{on_ok, on_err}
use Rattle.fetch_waits.proofs.Runs.{run_starts, run_ends}
use Rattle.fetch_waits.proofs.waiting.run_within.Goals as goal

pub returns-clause-starts : goal.returns-clause-starts
returns-clause-starts g c =
    let offset : FitsSigned w64 c.args.entry.offset = search rules in
    run_starts c.fetch.result c.args.copy.now.kept _ c.args.entry.offset (to_z-of_z w64 c.args.entry.offset offset) c.fetch.ensures.from_offset

pub returns-clause-ends : goal.returns-clause-ends
returns-clause-ends g c =
    let most : FitsSigned w32 c.args.entry.max_bytes = search rules in
    run_ends c.fetch.result c.args.copy.now.kept _ _ (min (fetch_limit c.args.entry.max_bytes) c.args.missing) (cc (to_z-of_z w32 c.args.entry.max_bytes most)) c.fetch.ensures.as_many_as_fit

pub returns-clause-in_range : goal.returns-clause-in_range
returns-clause-in_range g c =
    let offset : FitsSigned w64 c.args.entry.offset = search rules in
    on_ok c.fetch.result (inside_range c.args.copy.now c.args.entry.offset _ (to_z-of_z w64 c.args.entry.offset offset)) c.fetch.ensures.in_range

pub returns-clause-out_of_range : goal.returns-clause-out_of_range
returns-clause-out_of_range g c =
    let offset : FitsSigned w64 c.args.entry.offset = search rules in
    on_err c.fetch.result (outside_range c.args.copy.now c.args.entry.offset _ (to_z-of_z w64 c.args.entry.offset offset)) c.fetch.ensures.out_of_range
