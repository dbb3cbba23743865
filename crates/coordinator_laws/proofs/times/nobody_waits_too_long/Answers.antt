use Rattle.coordinator_laws.proofs.Expiring.{waits_in_time}
use Rattle.coordinator_laws.proofs.times.nobody_waits_too_long.Goals as goal

pub returns : goal.returns
returns c = waits_in_time
