use Rattle.std.proofs.Common.{◌≡◌, drop}
use Rattle.std.specs.List.{filter}
use Rattle.group_coordinator.specs.Members.{refusals_of}
use Rattle.group_coordinator.specs.Doing.{HasRoom, chooses, pending_of, refusing}
use Rattle.group_coordinator.proofs.members.refuse_those.Given as goal

-- with those that are left all are refused that are meant
abbrev pub invariant-loop-member : goal.invariant-loop-member
invariant-loop-member g l =
    (refusing l.fn.ledger (refusals_of l.error (filter (chooses l.who) l.members)) ≡ refusing l.ledger (refusals_of l.error (filter (chooses l.who) (drop l.member-index l.members))))
    × HasRoom l.ledger (pending_of (drop l.member-index l.members))
