use Rattle.copy_deltas.proofs.Exchanged.{later_takes, later_memory, later_merges, later_copy}
use Rattle.copy_deltas.proofs.laws.an_answer_is_a_merge_later.Goals as goal

pub returns : goal.returns
returns c = record { taken = later_takes; only_memory_lacks = later_memory; merge = later_merges; copy = later_copy }
