use Rattle.std.proofs.Common.{◌≡◌, map, take}
use Rattle.group_offsets.specs.Batches.{null_records}
use Rattle.group_offsets.proofs.forget.null_records.Given as goal

abbrev pub invariant-loop-i : goal.invariant-loop-i
invariant-loop-i g l = l.recs.items ≡ null_records 0 (take l.i (map (λ key. key.now) l.keys))
