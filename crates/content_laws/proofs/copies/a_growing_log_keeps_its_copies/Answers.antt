use Rattle.content_laws.proofs.CopyGrow.{copy_of_longer}
use Rattle.content_laws.proofs.copies.a_growing_log_keeps_its_copies.Goals as goal

pub returns : goal.returns
returns c = λ x log b content plain copy. copy_of_longer x log b content plain copy
