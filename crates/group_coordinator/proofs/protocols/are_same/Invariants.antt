use Rattle.std.proofs.Common.{◌≡◌, drop}
use Rattle.group_coordinator.specs.Joining.{same_protocols}
use Rattle.group_coordinator.proofs.protocols.are_same.Given as goal

-- those that are left decide
abbrev pub invariant-loop-index : goal.invariant-loop-index
invariant-loop-index g l = same_protocols (drop l.index l.left) (drop l.index l.right) ≡ same_protocols l.left l.right
