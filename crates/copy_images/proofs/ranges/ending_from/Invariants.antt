use Rattle.std.proofs.Common.{◌≡◌, drop}
use Rattle.copy_images.specs.Judging.{ranges_of, ending_from}
use Rattle.copy_images.proofs.ranges.ending_from.Given as goal

abbrev pub invariant-loop-at : goal.invariant-loop-at
invariant-loop-at l = ending_from l.offset (drop l.at (ranges_of l.ranges)) ≡ ending_from l.offset (ranges_of l.ranges)
