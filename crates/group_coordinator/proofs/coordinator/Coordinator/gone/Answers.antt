use Rattle.std.proofs.Common.{◌∙◌, ap, not}
use Rattle.std.specs.List.{filter}
use Rattle.group_coordinator.specs.Coordinators.{gone, is_for}
use Rattle.group_coordinator.specs.Joining.{end_session}
use Rattle.group_coordinator.specs.Doing.{Noted}
use Rattle.group_coordinator.proofs.Bytes.{bytes_all, counted_all, numbered_all, numbered_as, within_end}
use Rattle.group_coordinator.proofs.Due.{first_of_all}
use Rattle.group_coordinator.proofs.Lifting.{moved_all, apart_all, peopled_all, room_all, room_forgot}
use Rattle.group_coordinator.proofs.coordinator.Coordinator.gone.Goals as goal

pub end_session-requires : goal.end_session-requires
end_session-requires g c = record {
  bounded = c.self.invariant.0;
  room = room_forgot c.self.inside.ledger c.forget.new.self c.args.session c.self.inside.groups c.forget.ensures c.self.invariant.2;
}

pub bytes-self-inside-requires : goal.bytes-self-inside-requires
bytes-self-inside-requires g c = record {
  counted = bytes_all (end_session c.self.inside.time c.args.session) c.forget.new.self c.end_session.new.ledger c.self.inside.groups c.end_session.new.self c.drop_empty.new.self c.self.inside.bytes
      (within_end c.self.inside.time c.args.session) c.end_session.ensures c.drop_empty.ensures c.self.invariant.3;
}

pub invariant_of-self : goal.invariant_of-self
invariant_of-self g c =
    let a = end_session c.self.inside.time c.args.session in
    let room = room_forgot c.self.inside.ledger c.forget.new.self c.args.session c.self.inside.groups c.forget.ensures c.self.invariant.2 in (
      c.self.invariant.0,
      (
        apart_all a c.forget.new.self c.end_session.new.ledger c.self.inside.groups c.end_session.new.self c.drop_empty.new.self c.end_session.ensures c.drop_empty.ensures
            c.self.invariant.1.0,
        peopled_all c.end_session.new.self c.drop_empty.new.self c.drop_empty.ensures,
      ),
      room_all a c.forget.new.self c.end_session.new.ledger c.self.inside.groups c.end_session.new.self c.drop_empty.new.self c.end_session.ensures c.drop_empty.ensures room,
      counted_all a c.forget.new.self c.end_session.new.ledger c.self.inside.groups c.end_session.new.self c.drop_empty.new.self c.self.inside.bytes c.bytes-self-inside.result (within_end c.self.inside.time c.args.session) c.end_session.ensures c.drop_empty.ensures
          c.self.invariant.3 c.bytes-self-inside.ensures,
      numbered_all a c.forget.new.self c.end_session.new.ledger c.self.inside.groups c.end_session.new.self c.drop_empty.new.self (within_end c.self.inside.time c.args.session) c.end_session.ensures c.drop_empty.ensures
          (numbered_as c.self.inside.ledger.generations c.forget.new.self.generations c.self.inside.groups (ap (λ (n : Noted). n.generations) c.forget.ensures) c.self.invariant.4),
      first_of_all c.due-self-inside.result c.drop_empty.new.self c.due-self-inside.ensures,
    )

pub returns : goal.returns
returns g c =
    moved_all (end_session c.self.inside.time c.args.session) (record { settings = c.self.inside.settings; now = c.self.inside.time; ids = c.self.inside.ids; generations = c.self.inside.ledger.generations; groups = c.self.inside.groups; refused = filter (λ r. not (is_for c.args.session r)) c.self.inside.ledger.refusals }) c.forget.new.self c.end_session.new.ledger
    c.end_session.new.self c.drop_empty.new.self (ap (λ (n : Noted). n.generations) c.forget.ensures) (ap (λ (n : Noted). n.refusals) c.forget.ensures)
    c.end_session.ensures c.drop_empty.ensures
    ∙ ap (gone c.args.session) c.self.view_is
