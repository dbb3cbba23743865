use Rattle.std.proofs.Common.{◌∙◌, sym}
use Rattle.group_coordinator.specs.declared.who.Who.TheVariants.{Unjoined}
use Rattle.group_coordinator.specs.Groups.{drop_those, begin_generation, if_any_left}
use Rattle.group_coordinator.specs.Doing.{chooses}
use Rattle.group_coordinator.proofs.Moves.{does_then, does_left, does_none_left, room_behind}
use Rattle.group_coordinator.proofs.group.MemberGroup.complete.Goals as goal

pub begin-requires : goal.begin-requires
begin-requires g c = record {
  bounded = c.requires.bounded;
  room = room_behind (drop_those (chooses Unjoined)) c.args.ledger.now c.drop_those.new.ledger c.args.self.now c.drop_those.new.self c.drop_those.ensures c.requires.room;
}

pub returns-then-is_empty : goal.returns-then-is_empty
returns-then-is_empty g c =
    does_then (drop_those (chooses Unjoined)) (if_any_left (begin_generation c.args.now)) c.args.ledger.now c.drop_those.new.ledger c.drop_those.new.ledger c.args.self.now c.drop_those.new.self
    c.drop_those.new.self c.drop_those.ensures
    (does_none_left (begin_generation c.args.now) c.drop_those.new.ledger c.drop_those.new.self (sym c.is_empty.ensures ∙ c.if-is_empty.true))

pub returns : goal.returns
returns g c =
    does_then (drop_those (chooses Unjoined)) (if_any_left (begin_generation c.args.now)) c.args.ledger.now c.drop_those.new.ledger c.begin.new.ledger c.args.self.now c.drop_those.new.self
    c.begin.new.self c.drop_those.ensures
    (does_left (begin_generation c.args.now) c.drop_those.new.ledger c.begin.new.ledger c.drop_those.new.self c.begin.new.self (sym c.is_empty.ensures ∙ c.if-is_empty.false) c.begin.ensures)
