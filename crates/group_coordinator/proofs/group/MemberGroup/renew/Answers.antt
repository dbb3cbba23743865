use Rattle.group_coordinator.specs.Groups.{prepare, settle}
use Rattle.group_coordinator.proofs.Moves.{does_then, room_behind}
use Rattle.group_coordinator.proofs.group.MemberGroup.renew.Goals as goal

pub settle-requires : goal.settle-requires
settle-requires g c = record {
  bounded = c.requires.bounded;
  room = room_behind (prepare c.args.settings c.args.now) c.args.ledger.now c.prepare.new.ledger c.args.self.now c.prepare.new.self c.prepare.ensures c.requires.room;
}

pub returns : goal.returns
returns g c =
    does_then (prepare c.args.settings c.args.now) (settle c.args.now) c.args.ledger.now c.prepare.new.ledger c.settle.new.ledger c.args.self.now c.prepare.new.self c.settle.new.self
    c.prepare.ensures c.settle.ensures
