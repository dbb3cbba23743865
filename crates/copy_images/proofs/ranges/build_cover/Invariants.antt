use Rattle.std.proofs.Common.{◌≡◌, take}
use Rattle.copy_images.specs.Judging.{ranges_of}
use Rattle.copy_images.proofs.ranges.build_cover.Given as goal

abbrev pub invariant-loop-bytes : goal.invariant-loop-bytes
invariant-loop-bytes g l = l.cover.runs ≡ ranges_of (take l.bytes-index l.ranges)
