use Rattle.group_coordinator.specs.Members.{has_id}
use Rattle.group_coordinator.specs.Groups.{and_then, drop_those, prepare, settle}
use Rattle.group_coordinator.proofs.Moves.{does_then, room_behind}
use Rattle.group_coordinator.proofs.group.MemberGroup.leave.Goals as goal

pub renew-requires : goal.renew-requires
renew-requires g c = record {
  bounded = c.requires.bounded;
  room = room_behind (drop_those (has_id c.args.id.now)) c.args.ledger.now c.drop_named.new.ledger c.args.self.now c.drop_named.new.self c.drop_named.ensures c.requires.room;
}

pub returns : goal.returns
returns g c =
    does_then (drop_those (has_id c.args.id.now)) (and_then (prepare c.args.settings c.args.now) (settle c.args.now)) c.args.ledger.now c.drop_named.new.ledger c.renew.new.ledger c.args.self.now
    c.drop_named.new.self c.renew.new.self c.drop_named.ensures c.renew.ensures
