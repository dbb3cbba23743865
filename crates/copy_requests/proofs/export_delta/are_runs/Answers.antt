use Rattle.std.proofs.Common.{rules}
use Rattle.copy_requests.proofs.export_delta.are_runs.Goals as goal

pub loop-range-preserved : goal.loop-range-preserved
loop-range-preserved c = search rules
