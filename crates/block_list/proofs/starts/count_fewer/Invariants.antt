use Rattle.std.proofs.Common.{◌≡◌, ◌-◌, ◌++◌, take, drop, map, ℕ}
use Rattle.block_list.proofs.starts.count_fewer.Given as goal

abbrev pub invariant-loop-i : goal.invariant-loop-i
invariant-loop-i l = l.starts ≡ map (λ (s : ℕ). s - l.fewer) (take l.i l.fn.starts) ++ drop l.i l.fn.starts
