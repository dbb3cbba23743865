use Rattle.std.proofs.Common.{rules, refl, drop_of_length-le}
use Rattle.group_coordinator.specs.Doing.{chooses}
use Rattle.group_coordinator.proofs.Refusing.{refuse_step, refuse_last, room_for}
use Rattle.group_coordinator.proofs.members.refuse_those.Goals as goal

pub refuse_if-requires : goal.refuse_if-requires
refuse_if-requires g c = record { room = room_for c.args.members.now c.loop-member.member-index c.member-item.result c.loop-member.ledger (search rules) c.member-item.is c.loop-member.invariant.1 }

pub loop-member-init : goal.loop-member-init
loop-member-init g c = (refl, c.requires.room)

pub loop-member-preserved : goal.loop-member-preserved
loop-member-preserved g c =
    refuse_step c.args.error (chooses c.args.who) c.args.members.now c.loop-member.member-index c.member-item.result c.loop-member.ledger c.refuse_if.new.ledger _ (search rules)
    c.member-item.is c.refuse_if.ensures c.loop-member.invariant

pub returns : goal.returns
returns g c = refuse_last c.args.error (chooses c.args.who) _ _ _ (drop_of_length-le c.args.members.now (search rules)) c.loop-member.invariant.0
