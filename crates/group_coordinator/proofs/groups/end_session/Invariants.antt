use Rattle.group_coordinator.specs.Joining.{end_session}
use Rattle.group_coordinator.proofs.Lifting.{UpTo}
use Rattle.group_coordinator.proofs.groups.end_session.Given as goal

-- those before the index moved
abbrev pub invariant-loop-group : goal.invariant-loop-group
invariant-loop-group g l = UpTo (end_session l.now l.session) l.fn.ledger l.ledger l.group-index l.fn.groups l.groups
