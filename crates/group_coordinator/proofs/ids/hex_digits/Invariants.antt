use Rattle.std.proofs.Common.{◌≡◌, ◌≤◌, ◌++◌, drop, length}
use Rattle.group_coordinator.specs.Members.{hex}
use Rattle.group_coordinator.proofs.ids.hex_digits.Given as goal

-- the digits that are left stand before those that are there
abbrev pub invariant-loop-at : goal.invariant-loop-at
invariant-loop-at l = (hex l.at l.left ++ drop l.at l.digits ≡ hex 16 l.fn.number) × (l.at ≤ 16) × (length l.digits ≡ 16)

abbrev pub decreases-loop-at : goal.decreases-loop-at
decreases-loop-at l = l.at
