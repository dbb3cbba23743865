use Rattle.std.proofs.Common.{◌∙◌, sym}
use Rattle.group_coordinator.specs.declared.who.Who.TheVariants.{Silent}
use Rattle.group_coordinator.specs.Groups.{drop_those}
use Rattle.group_coordinator.specs.Doing.{chooses}
use Rattle.group_coordinator.proofs.Moves.{does_expire, does_expire_none, room_behind}
use Rattle.group_coordinator.proofs.group.MemberGroup.expire.Goals as goal

pub renew-requires : goal.renew-requires
renew-requires g c = record {
  bounded = c.requires.bounded;
  room = room_behind (drop_those (chooses (Silent c.args.now c.is_overdue.result))) c.args.ledger.now c.drop_those.new.ledger c.args.self.now c.drop_those.new.self c.drop_those.ensures c.requires.room;
}

pub returns-then-not-has : goal.returns-then-not-has
returns-then-not-has g c =
    does_expire_none c.args.settings c.args.now c.is_overdue.result c.args.ledger.now c.settle.new.ledger c.args.self.now c.settle.new.self c.is_overdue.ensures (sym c.if-not-has.true ∙ c.has.ensures)
    c.settle.ensures

pub returns : goal.returns
returns g c =
    does_expire c.args.settings c.args.now c.is_overdue.result c.args.ledger.now c.drop_those.new.ledger c.renew.new.ledger c.args.self.now c.drop_those.new.self c.renew.new.self c.is_overdue.ensures
    (sym c.if-not-has.false ∙ c.has.ensures) c.drop_those.ensures c.renew.ensures
