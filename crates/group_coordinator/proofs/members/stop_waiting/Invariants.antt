use Rattle.std.proofs.Common.{◌≡◌, ◌++◌, map, take, drop}
use Rattle.group_coordinator.specs.Joining.{unwaited}
use Rattle.group_coordinator.proofs.members.stop_waiting.Given as goal

-- those before the place are changed
abbrev pub invariant-loop-member : goal.invariant-loop-member
invariant-loop-member g l = l.members ≡ map (unwaited l.now l.session) (take l.member-index l.fn.members) ++ drop l.member-index l.fn.members
