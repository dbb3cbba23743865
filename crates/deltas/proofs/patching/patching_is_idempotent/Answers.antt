use Rattle.deltas.proofs.PatchLaws.{patch_again}
use Rattle.deltas.proofs.patching.patching_is_idempotent.Goals as goal

pub returns : goal.returns
returns c = patch_again
