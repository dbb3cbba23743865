use Rattle.swept_contents.proofs.KeptSwept.{less_swept}
use Rattle.swept_contents.proofs.keeping.less_is_swept_too.Goals as goal

pub returns : goal.returns
returns c = less_swept
