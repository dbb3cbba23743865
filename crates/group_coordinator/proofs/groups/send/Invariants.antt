use Rattle.std.proofs.Common.{◌≡◌, ◌++◌, map, take, drop}
use Rattle.group_coordinator.specs.Coordinators.{sent_group}
use Rattle.group_coordinator.proofs.groups.send.Given as goal

-- those before the place are changed
abbrev pub invariant-loop-group : goal.invariant-loop-group
invariant-loop-group g l = l.groups ≡ map (sent_group l.session) (take l.group-index l.fn.groups) ++ drop l.group-index l.fn.groups
