use Rattle.std.proofs.Common.{rules}
use Rattle.copy_requests.proofs.export_delta.delta_for.Goals as goal

pub returns-in-Ok : goal.returns-in-Ok
returns-in-Ok g c = search rules
