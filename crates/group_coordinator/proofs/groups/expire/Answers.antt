use Rattle.std.proofs.Common.{rules}
use Rattle.group_coordinator.specs.Times.{expire_group}
use Rattle.group_coordinator.proofs.Lifting.{room_of_one, up_to_first, up_to_more, up_to_last}
use Rattle.group_coordinator.proofs.groups.expire.Goals as goal

pub expire-requires : goal.expire-requires
expire-requires g c = record {
  bounded = c.requires.bounded;
  room = room_of_one c.loop-group.ledger c.loop-group.groups c.loop-group.group-index c.group-item.result (search rules) c.group-item.is c.loop-group.invariant.room;
}

pub loop-group-init : goal.loop-group-init
loop-group-init g c = up_to_first (expire_group c.args.settings c.args.now) c.args.ledger.now c.args.groups.now c.requires.room

pub loop-group-preserved : goal.loop-group-preserved
loop-group-preserved g c =
    up_to_more (expire_group c.args.settings c.args.now) c.args.ledger.now c.loop-group.ledger c.expire.new.ledger c.loop-group.group-index c.args.groups.now c.loop-group.groups c.group-item.result
    c.expire.new.self (search rules) c.group-item.is c.loop-group.invariant c.expire.ensures

pub returns : goal.returns
returns g c =
    up_to_last (expire_group c.args.settings c.args.now) c.args.ledger.now c.loop-group.ledger c.loop-group.group-index c.args.groups.now c.loop-group.groups (search rules) c.loop-group.invariant
