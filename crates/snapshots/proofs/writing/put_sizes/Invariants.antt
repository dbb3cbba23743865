use Rattle.std.proofs.Common.{◌≡◌, ◌++◌, drop}
use Rattle.std.specs.List.{flat_map}
use Rattle.frame_fields.specs.Fields.{be, size64}
use Rattle.snapshots.proofs.writing.put_sizes.Given as goal

-- what is left to be written gives what all gives
abbrev pub invariant-loop-size : goal.invariant-loop-size
invariant-loop-size g l = l.out.items ++ flat_map (be size64) (drop l.size-index l.sizes) ≡ l.fn.out.items ++ flat_map (be size64) l.sizes
