use Rattle.cleaning_policy.proofs.Bounding.{bounded}
use Rattle.cleaning_policy.proofs.laws.frames_are_bounded.Goals as goal

pub returns : goal.returns
returns c = bounded
