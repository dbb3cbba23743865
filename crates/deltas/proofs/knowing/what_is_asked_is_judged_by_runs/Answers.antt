use Rattle.deltas.proofs.AskedRuns.{for_by_runs, unknown_found}
use Rattle.deltas.proofs.knowing.what_is_asked_is_judged_by_runs.Goals as goal

pub returns-clause-known : goal.returns-clause-known
returns-clause-known c = for_by_runs

pub returns-clause-unknown : goal.returns-clause-unknown
returns-clause-unknown c = unknown_found
