use Rattle.std.proofs.Common.{map}
use Rattle.group_offsets.proofs.BatchSizes.{HasCounted}
use Rattle.group_offsets.proofs.sizes.is_small.Given as goal

abbrev pub invariant-loop-i : goal.invariant-loop-i
invariant-loop-i l = HasCounted l.size l.i (map (λ key. key.now) l.keys)
