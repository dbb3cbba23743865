use Rattle.std.proofs.Common.{◌≡◌, ◌++◌, take}
use Rattle.std.specs.List.{flat_map}
use Rattle.copy_images.specs.Images.{range_encoding}
use Rattle.copy_images.proofs.fields.put_ranges.Given as goal

abbrev pub invariant-loop-range : goal.invariant-loop-range
invariant-loop-range g l = l.out.items ≡ l.initial.out.items ++ flat_map range_encoding (take l.range-index l.ranges)
