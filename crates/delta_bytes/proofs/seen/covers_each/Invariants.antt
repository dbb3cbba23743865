use Rattle.copy_images.specs.Judging.{ranges_of}
use Rattle.delta_bytes.proofs.Covered.{CoveredSoFar}
use Rattle.delta_bytes.proofs.seen.covers_each.Given as goal

abbrev pub invariant-loop-bytes : goal.invariant-loop-bytes
invariant-loop-bytes l = CoveredSoFar (ranges_of l.ranges) l.offsets l.bytes-index (ranges_of l.left)
