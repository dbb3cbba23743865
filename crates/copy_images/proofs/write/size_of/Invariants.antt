use Rattle.std.proofs.Common.{◌+◌, ◌*◌, ◌-◌, length}
use Rattle.copy_images.proofs.Sizes.{batch_bytes, Counts}
use Rattle.copy_images.proofs.write.size_of.Given as goal

-- the size so far, and that of the batches that are left
abbrev pub invariant-loop-start : goal.invariant-loop-start
invariant-loop-start g l = Counts l.size l.start l.copy.kept (26 + 16 * length l.copy.cover + batch_bytes l.copy.kept)

abbrev pub decreases-loop-start : goal.decreases-loop-start
decreases-loop-start g l = length l.copy.kept - l.start
