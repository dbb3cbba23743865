use Rattle.std.proofs.Common.{◌≡◌, ◌++◌, length}
use Rattle.std.specs.List.{flat_map, AllByRecursion}
use Rattle.copy_deltas.proofs.Entries.{said_bytes, IsPlaced}
use Rattle.copy_deltas.proofs.write.put_each.Given as goal

-- what was said of the batches so far, and what is said of those that are left
abbrev pub invariant-loop-batch : goal.invariant-loop-batch
invariant-loop-batch g l =
    AllByRecursion IsPlaced l.walk ×
    (l.out.items ++ flat_map (said_bytes l.asked.runs) l.walk ≡ l.fn.out.items ++ flat_map (said_bytes l.asked.runs) l.copy.kept)

abbrev pub decreases-loop-batch : goal.decreases-loop-batch
decreases-loop-batch g l = length l.walk
