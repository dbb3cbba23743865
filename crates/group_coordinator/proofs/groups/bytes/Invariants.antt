use Rattle.std.proofs.Common.{◌≡◌, ◌+◌, drop}
use Rattle.std.specs.List.{sum_by}
use Rattle.group_coordinator.specs.Groups.{group_bytes}
use Rattle.group_coordinator.proofs.groups.bytes.Given as goal

-- with those that are left they are the bytes of all
abbrev pub invariant-loop-group : goal.invariant-loop-group
invariant-loop-group g l = l.bytes + sum_by group_bytes (drop l.group-index l.groups) ≡ sum_by group_bytes l.groups
