use Rattle.coordinator_laws.proofs.Expiring.{before_next}
use Rattle.coordinator_laws.proofs.times.nothing_expires_before.Goals as goal

pub returns : goal.returns
returns c = before_next
