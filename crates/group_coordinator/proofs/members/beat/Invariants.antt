use Rattle.std.proofs.Common.{◌≡◌, ◌++◌, map, take, drop}
use Rattle.std.specs.Prelude.{if◌then◌else◌}
use Rattle.group_coordinator.specs.Members.{beat, has_id}
use Rattle.group_coordinator.proofs.members.beat.Given as goal

-- those before the place are changed
abbrev pub invariant-loop-member : goal.invariant-loop-member
invariant-loop-member g l = l.members ≡ map (λ m. if has_id l.id m then beat l.now m else m) (take l.member-index l.fn.members) ++ drop l.member-index l.fn.members
