use Rattle.std.proofs.Common.{◌≡◌, ◌++◌, List, map, take, drop}
use Rattle.group_coordinator.specs.Requests.{Part}
use Rattle.group_coordinator.specs.Joining.{assigned}
use Rattle.group_coordinator.specs.Giving.{parts_for}
use Rattle.group_coordinator.proofs.parts.give.Given as goal

-- those before the index have theirs, and the parts of those behind it are left
abbrev pub invariant-loop-member : goal.invariant-loop-member
invariant-loop-member g l = (ps : List Part) → l.fn.given ≡ parts_for ps l.fn.members
    → (l.members ≡ map (assigned l.now ps) (take l.member-index l.fn.members) ++ drop l.member-index l.fn.members) × (l.given ≡ parts_for ps (drop l.member-index l.fn.members))
