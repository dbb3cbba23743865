use Rattle.std.proofs.Common.{◌≡◌, List, length, min, take}
use Rattle.std.specs.List.{sum_by}
use Rattle.group_coordinator.specs.Requests.{Part}
use Rattle.group_coordinator.specs.Joining.{part_of}
use Rattle.group_coordinator.specs.Giving.{GivesLast}
use Rattle.group_coordinator.proofs.parts.given_bytes.Given as goal

-- what those before the index get
abbrev pub invariant-loop-member : goal.invariant-loop-member
invariant-loop-member g l = (ps : List Part) → GivesLast l.last ps → l.bytes ≡ min (sum_by (λ m. length (part_of ps m.id)) (take l.member-index l.members)) 18446744073709551615
