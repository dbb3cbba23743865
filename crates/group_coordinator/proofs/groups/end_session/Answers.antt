use Rattle.std.proofs.Common.{rules}
use Rattle.group_coordinator.specs.Joining.{end_session}
use Rattle.group_coordinator.proofs.Lifting.{room_of_one, up_to_first, up_to_more, up_to_last}
use Rattle.group_coordinator.proofs.groups.end_session.Goals as goal

pub end_session-requires : goal.end_session-requires
end_session-requires g c = record {
  bounded = c.requires.bounded;
  room = room_of_one c.loop-group.ledger c.loop-group.groups c.loop-group.group-index c.group-item.result (search rules) c.group-item.is c.loop-group.invariant.room;
}

pub loop-group-init : goal.loop-group-init
loop-group-init g c = up_to_first (end_session c.args.now c.args.session) c.args.ledger.now c.args.groups.now c.requires.room

pub loop-group-preserved : goal.loop-group-preserved
loop-group-preserved g c =
    up_to_more (end_session c.args.now c.args.session) c.args.ledger.now c.loop-group.ledger c.end_session.new.ledger c.loop-group.group-index c.args.groups.now c.loop-group.groups c.group-item.result
    c.end_session.new.self (search rules) c.group-item.is c.loop-group.invariant c.end_session.ensures

pub returns : goal.returns
returns g c =
    up_to_last (end_session c.args.now c.args.session) c.args.ledger.now c.loop-group.ledger c.loop-group.group-index c.args.groups.now c.loop-group.groups (search rules) c.loop-group.invariant
