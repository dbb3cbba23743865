use Rattle.deltas.proofs.PatchContents.{content_patch}
use Rattle.deltas.proofs.contents.a_patch_is_a_content.Goals as goal

pub returns : goal.returns
returns c = content_patch
