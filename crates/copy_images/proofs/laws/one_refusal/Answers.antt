use Rattle.copy_images.proofs.FirstFaults.{one_refusal}
use Rattle.copy_images.proofs.laws.one_refusal.Goals as goal

pub returns : goal.returns
returns c = one_refusal
