use Rattle.swept_contents.proofs.SweptParts.{start_is_swept}
use Rattle.swept_contents.proofs.sweeping.below_the_start_all_is_swept.Goals as goal

pub returns : goal.returns
returns c = start_is_swept
