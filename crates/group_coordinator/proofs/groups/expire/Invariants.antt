use Rattle.group_coordinator.specs.Times.{expire_group}
use Rattle.group_coordinator.proofs.Lifting.{UpTo}
use Rattle.group_coordinator.proofs.groups.expire.Given as goal

-- those before the index moved
abbrev pub invariant-loop-group : goal.invariant-loop-group
invariant-loop-group g l = UpTo (expire_group l.settings l.now) l.fn.ledger l.ledger l.group-index l.fn.groups l.groups
