use Rattle.std.proofs.Common.{◌+◌, ◌<◌, ◌∙◌, ℕ, ap, length, subst, sym}
use Rattle.std.specs.Prelude.{◌/◌}
use Rattle.std.specs.List.{position}
use Rattle.group_coordinator.specs.Coordinators.{Groups, is_named, move_one}
use Rattle.group_coordinator.specs.Doing.{HasRoom, Noted, pending_of}
use Rattle.group_coordinator.proofs.Again.{tells, told_counted}
use Rattle.group_coordinator.proofs.Keeping.{at_index}
use Rattle.group_coordinator.proofs.Lifting.{room_at}
use Rattle.group_coordinator.proofs.Due.{staying_first, staying_long}
use Rattle.group_coordinator.proofs.Staying.{more_room, moved_staying, staying_both, staying_numbered, staying_room}
use Rattle.group_coordinator.proofs.coordinator.Coordinator.tell_again.Goals as goal

pub tell-requires-clause-room : goal.tell-requires-clause-room
tell-requires-clause-room g c = λ x at.
    let low : c.args.index < length c.self.inside.groups = subst (λ (v : Groups). c.args.index < length v.groups) (sym c.self.view_is) c.requires.within in
    more_room c.self.inside.ledger c.reserve.new.self (pending_of x.members) c.reserve.ensures.keeps c.reserve.ensures.unchanged
    (room_at c.self.inside.ledger c.self.inside.groups c.args.index low c.self.invariant.2 x at)

pub invariant_of-self-2 : goal.invariant_of-self-2
invariant_of-self-2 g c =
    let low : c.args.index < length c.self.inside.groups = subst (λ (v : Groups). c.args.index < length v.groups) (sym c.self.view_is) c.requires.within in
    let at = at_index c.self.inside.groups c.args.index low in
    let a = tells c.self.inside.time c.args.session c.args.member.now in
    let room : HasRoom c.reserve.new.self (c.self.inside.bytes / 256 + c.self.inside.bytes / 256) = subst (λ (n : ℕ). HasRoom c.reserve.new.self n) c.refusals_most.ensures c.in_ok-reserve.ensures.reserves in (
      c.self.invariant.0,
      staying_both a c.reserve.new.self c.tell.new.ledger c.self.inside.groups c.tell.new.self c.args.index at.0 low at.1 c.self.invariant.1 c.tell.ensures,
      staying_room a c.reserve.new.self c.tell.new.ledger c.self.inside.groups c.tell.new.self c.args.index c.self.inside.bytes at.0 low at.1 c.self.invariant.3 room c.tell.ensures,
      told_counted c.self.inside.time c.args.session c.args.member.now c.reserve.new.self c.tell.new.ledger c.self.inside.groups c.tell.new.self c.args.index c.self.inside.bytes at.0 low at.1 c.self.invariant.3 c.tell.ensures,
      staying_numbered a c.reserve.new.self c.tell.new.ledger c.self.inside.groups c.tell.new.self c.args.index c.self.inside.ledger.generations at.0 low at.1 c.self.invariant.4
          (ap (λ (n : Noted). n.generations) c.reserve.ensures.unchanged) c.tell.ensures,
      staying_first a c.reserve.new.self c.tell.new.ledger c.self.inside.due c.due-self-inside.result c.self.inside.groups c.tell.new.self c.args.index c.group.result.now low c.tell.ensures c.group.ensures c.due-self-inside.ensures c.self.invariant.5,
    )

pub returns-clause-tells : goal.returns-clause-tells
returns-clause-tells g c = λ name e.
    let low : c.args.index < length c.self.inside.groups = subst (λ (v : Groups). c.args.index < length v.groups) (sym c.self.view_is) c.requires.within in
    let v : Groups = record { settings = c.self.inside.settings; now = c.self.inside.time; ids = c.self.inside.ids; generations = c.self.inside.ledger.generations; groups = c.self.inside.groups; refused = c.self.inside.ledger.refusals } in
    moved_staying name (tells c.self.inside.time c.args.session c.args.member.now) v c.reserve.new.self c.tell.new.ledger c.tell.new.self c.args.index low c.self.invariant.1.0 c.self.invariant.1.1
    ((λ i. position (is_named name) (c.self.view_is i).groups) ∙ e) (ap (λ (n : Noted). n.generations) c.reserve.ensures.unchanged) (ap (λ (n : Noted). n.refusals) c.reserve.ensures.unchanged) c.tell.ensures
    ∙ ap (λ (w : Groups). move_one name (tells w.now c.args.session c.args.member.now) w) c.self.view_is

pub group-requires : goal.group-requires
group-requires g c =
    let low : c.args.index < length c.self.inside.groups = subst (λ (v : Groups). c.args.index < length v.groups) (sym c.self.view_is) c.requires.within in
    record { within = staying_long (tells c.self.inside.time c.args.session c.args.member.now) c.reserve.new.self c.tell.new.ledger c.self.inside.groups c.tell.new.self c.args.index low c.tell.ensures }
