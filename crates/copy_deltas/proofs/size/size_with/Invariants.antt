use Rattle.std.proofs.Common.{length}
use Rattle.std.specs.List.{AllByRecursion}
use Rattle.copy_deltas.proofs.Entries.{IsPlaced}
use Rattle.copy_deltas.proofs.Sizes.{Counts}
use Rattle.copy_deltas.proofs.size.size_with.Given as goal

-- the size so far, and that of the entries for the batches that are left
abbrev pub invariant-loop-batch : goal.invariant-loop-batch
invariant-loop-batch g l = AllByRecursion IsPlaced l.walk × Counts l.copy l.asked.runs l.size l.walk

abbrev pub decreases-loop-batch : goal.decreases-loop-batch
decreases-loop-batch g l = length l.walk
