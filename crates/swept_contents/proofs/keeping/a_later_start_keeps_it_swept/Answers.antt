use Rattle.swept_contents.proofs.KeptSwept.{cut_keeps}
use Rattle.swept_contents.proofs.keeping.a_later_start_keeps_it_swept.Goals as goal

pub returns : goal.returns
returns c = cut_keeps
