use Rattle.deltas.proofs.PatchLaws.{patch_cut}
use Rattle.deltas.proofs.patching.patching_commutes_with_cutting.Goals as goal

pub returns : goal.returns
returns c = patch_cut
