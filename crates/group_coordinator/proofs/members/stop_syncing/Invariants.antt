use Rattle.std.proofs.Common.{◌≡◌, ◌++◌, map, take, drop}
use Rattle.group_coordinator.specs.Groups.{unsynced}
use Rattle.group_coordinator.proofs.members.stop_syncing.Given as goal

-- those before the place are changed
abbrev pub invariant-loop-member : goal.invariant-loop-member
invariant-loop-member g l = l.members ≡ map (unsynced l.now) (take l.member-index l.fn.members) ++ drop l.member-index l.fn.members
