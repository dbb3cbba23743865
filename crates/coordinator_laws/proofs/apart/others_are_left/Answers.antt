use Rattle.coordinator_laws.proofs.Others.{others_stay}
use Rattle.coordinator_laws.proofs.apart.others_are_left.Goals as goal

pub returns : goal.returns
returns c = others_stay
