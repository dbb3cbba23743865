use Rattle.coordinator_laws.proofs.Ids.{stays_gone}
use Rattle.coordinator_laws.proofs.members.who_left_stays_gone.Goals as goal

pub returns : goal.returns
returns c = stays_gone
