use Rattle.std.proofs.Common.{◌≡◌, drop}
use Rattle.std.specs.Prelude.{None}
use Rattle.std.specs.List.{flat_map}
use Rattle.group_coordinator.specs.Least.{earliest}
use Rattle.group_coordinator.specs.Due.{turning_times}
use Rattle.group_coordinator.proofs.groups.due.Given as goal

-- with those that are left it is the least of all
abbrev pub invariant-loop-group : goal.invariant-loop-group
invariant-loop-group g l = earliest l.least (flat_map turning_times (drop l.group-index l.groups)) ≡ earliest None (flat_map turning_times l.groups)
