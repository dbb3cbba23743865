use Rattle.deltas.proofs.DeltaMerges.{patch_is_join_agree}
use Rattle.copy_deltas.proofs.Exchanged.{agreed_takes, agreed_memory}
use Rattle.copy_deltas.proofs.laws.a_delta_of_one_that_agrees_is_a_merge.Goals as goal

pub returns : goal.returns
returns c = record { taken = agreed_takes; only_memory_lacks = agreed_memory; merge = patch_is_join_agree }
