use Rattle.copy_images.proofs.FirstFaults.{not_refused}
use Rattle.copy_images.proofs.laws.an_image_is_not_refused.Goals as goal

pub returns : goal.returns
returns c = not_refused
