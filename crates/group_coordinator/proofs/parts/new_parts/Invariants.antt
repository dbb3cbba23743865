use Rattle.std.proofs.Common.{◌≡◌, List, map, take}
use Rattle.group_coordinator.specs.Requests.{Part}
use Rattle.group_coordinator.specs.Giving.{GivesLast, parts_for}
use Rattle.group_coordinator.proofs.parts.new_parts.Given as goal

-- what those before the index get
abbrev pub invariant-loop-member : goal.invariant-loop-member
invariant-loop-member g l = (ps : List Part) → GivesLast l.last ps → map (λ x. x.items) l.parts.items ≡ parts_for ps (take l.member-index l.members)
