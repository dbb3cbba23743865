use Rattle.deltas.proofs.DeltaMerges.{patch_is_join, patch_is_join_agree}
use Rattle.deltas.proofs.merging.a_delta_is_a_merge.Goals as goal

pub returns : goal.returns
returns c = record { fitting = patch_is_join; agreeing = patch_is_join_agree }
