use Rattle.std.proofs.Common.{◌∙◌, sym}
use Rattle.group_coordinator.proofs.Moves.{does_end_not, does_end_session, room_unwaited}
use Rattle.group_coordinator.proofs.group.MemberGroup.end_session.Goals as goal

pub settle-requires : goal.settle-requires
settle-requires g c = record {
  bounded = c.requires.bounded;
  room = room_unwaited c.args.now c.args.session c.args.ledger.now c.args.self.now c.stop_waiting.new.self c.stop_waiting.ensures c.requires.room;
}

pub returns-then-not-waits_in : goal.returns-then-not-waits_in
returns-then-not-waits_in g c = does_end_not c.args.now c.args.session c.args.ledger.now c.args.self.now (sym c.if-not-waits_in.true ∙ c.waits_in.ensures)

pub returns : goal.returns
returns g c =
    does_end_session c.args.now c.args.session c.args.ledger.now c.settle.new.ledger c.args.self.now c.stop_waiting.new.self c.settle.new.self (sym c.if-not-waits_in.false ∙ c.waits_in.ensures)
    c.stop_waiting.ensures c.settle.ensures
