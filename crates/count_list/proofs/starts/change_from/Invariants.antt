use Rattle.std.proofs.Common.{◌≡◌, ◌+◌, ◌-◌, ◌++◌, take, drop, map, ℕ}
use Rattle.count_list.proofs.starts.change_from.Given as goal

abbrev pub invariant-loop-i : goal.invariant-loop-i
invariant-loop-i l = l.starts ≡ take l.from l.fn.starts ++ map (λ (s : ℕ). (s - l.less) + l.more) (take (l.i - l.from) (drop l.from l.fn.starts)) ++ drop l.i l.fn.starts
