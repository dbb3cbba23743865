use Rattle.std.proofs.Common.{◌∙◌, ap, refl}
use Rattle.group_coordinator.specs.Times.{expire, expire_group}
use Rattle.group_coordinator.proofs.Bytes.{bytes_all, counted_all, numbered_all, within_expire}
use Rattle.group_coordinator.proofs.Due.{first_of_all}
use Rattle.group_coordinator.proofs.Lifting.{moved_all, apart_all, peopled_all, room_all}
use Rattle.group_coordinator.proofs.coordinator.Coordinator.expire_groups.Goals as goal

pub bytes-self-inside-requires : goal.bytes-self-inside-requires
bytes-self-inside-requires g c = record {
  counted = bytes_all (expire_group c.self.inside.settings c.self.inside.time) c.self.inside.ledger c.expire.new.ledger c.self.inside.groups c.expire.new.self c.drop_empty.new.self c.self.inside.bytes
      (within_expire c.self.inside.settings c.self.inside.time) c.expire.ensures c.drop_empty.ensures c.self.invariant.3;
}

pub invariant_of-self : goal.invariant_of-self
invariant_of-self g c =
    let a = expire_group c.self.inside.settings c.self.inside.time in (
      c.self.invariant.0,
      (
        apart_all a c.self.inside.ledger c.expire.new.ledger c.self.inside.groups c.expire.new.self c.drop_empty.new.self c.expire.ensures c.drop_empty.ensures c.self.invariant.1.0,
        peopled_all c.expire.new.self c.drop_empty.new.self c.drop_empty.ensures,
      ),
      room_all a c.self.inside.ledger c.expire.new.ledger c.self.inside.groups c.expire.new.self c.drop_empty.new.self c.expire.ensures c.drop_empty.ensures c.self.invariant.2,
      counted_all a c.self.inside.ledger c.expire.new.ledger c.self.inside.groups c.expire.new.self c.drop_empty.new.self c.self.inside.bytes c.bytes-self-inside.result (within_expire c.self.inside.settings c.self.inside.time) c.expire.ensures c.drop_empty.ensures c.self.invariant.3 c.bytes-self-inside.ensures,
      numbered_all a c.self.inside.ledger c.expire.new.ledger c.self.inside.groups c.expire.new.self c.drop_empty.new.self (within_expire c.self.inside.settings c.self.inside.time) c.expire.ensures c.drop_empty.ensures c.self.invariant.4,
      first_of_all c.due-self-inside.result c.drop_empty.new.self c.due-self-inside.ensures,
    )

pub returns : goal.returns
returns g c =
    moved_all (expire_group c.self.inside.settings c.self.inside.time) (record { settings = c.self.inside.settings; now = c.self.inside.time; ids = c.self.inside.ids; generations = c.self.inside.ledger.generations; groups = c.self.inside.groups; refused = c.self.inside.ledger.refusals }) c.self.inside.ledger c.expire.new.ledger c.expire.new.self c.drop_empty.new.self refl refl
    c.expire.ensures c.drop_empty.ensures
    ∙ ap expire c.self.view_is
