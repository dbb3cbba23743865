use Rattle.copy_images.proofs.FirstFaults.{one_copy}
use Rattle.copy_images.proofs.laws.images_are_unique.Goals as goal

pub returns : goal.returns
returns c = one_copy
