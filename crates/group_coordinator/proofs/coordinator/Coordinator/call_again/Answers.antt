use Rattle.std.proofs.Common.{◌≡◌, ◌+◌, ◌<◌, ◌∙◌, ℕ, ap, get_or, length, slice_set, subst, sym}
use Rattle.std.specs.Prelude.{◌/◌}
use Rattle.std.specs.List.{position, sum_by}
use Rattle.group_coordinator.specs.Groups.{Group, group_bytes}
use Rattle.group_coordinator.specs.Joining.{rejoined, with_member}
use Rattle.group_coordinator.specs.Entering.{IsOnly}
use Rattle.group_coordinator.specs.Coordinators.{Groups, is_named, move_one}
use Rattle.group_coordinator.specs.Doing.{HasRoom, Noted, pending_of}
use Rattle.group_coordinator.proofs.Again.{called_counted, calls}
use Rattle.group_coordinator.proofs.Keeping.{at_index}
use Rattle.group_coordinator.proofs.Lifting.{room_at}
use Rattle.group_coordinator.proofs.Due.{staying_first, staying_long}
use Rattle.group_coordinator.proofs.Staying.{more_room, moved_staying, staying_both, staying_numbered, staying_room}
use Rattle.group_coordinator.proofs.coordinator.Coordinator.call_again.Goals as goal

pub rejoin-requires-clause-member : goal.rejoin-requires-clause-member
rejoin-requires-clause-member g c =
    subst (λ (v : Groups). (x : Group) → x ≡ get_or v.groups c.args.index x → (c.args.member < length x.members) × IsOnly c.args.request.member c.args.member x.members) (sym c.self.view_is) c.requires.member

pub rejoin-requires-clause-room : goal.rejoin-requires-clause-room
rejoin-requires-clause-room g c = λ x at.
    let low : c.args.index < length c.self.inside.groups = subst (λ (v : Groups). c.args.index < length v.groups) (sym c.self.view_is) c.requires.within in
    more_room c.self.inside.ledger c.reserve.new.self (pending_of x.members) c.reserve.ensures.keeps c.reserve.ensures.unchanged
    (room_at c.self.inside.ledger c.self.inside.groups c.args.index low c.self.invariant.2 x at)

pub invariant_of-self-2 : goal.invariant_of-self-2
invariant_of-self-2 g c =
    let low : c.args.index < length c.self.inside.groups = subst (λ (v : Groups). c.args.index < length v.groups) (sym c.self.view_is) c.requires.within in
    let at = at_index c.self.inside.groups c.args.index low in
    let a = calls c.self.inside.time c.args.session c.args.request in
    let counted = subst (λ (v : Groups). (x : Group) → x ≡ get_or v.groups c.args.index x → c.args.bytes ≡ sum_by group_bytes (slice_set v.groups c.args.index (with_member c.args.request.member (rejoined v.now c.args.session c.args.request) x))) (sym c.self.view_is) c.requires.counted in
    let room : HasRoom c.reserve.new.self (c.self.inside.bytes / 256 + c.self.inside.bytes / 256) = subst (λ (n : ℕ). HasRoom c.reserve.new.self n) c.refusals_most.ensures c.in_ok-reserve.ensures.reserves in (
      c.self.invariant.0,
      staying_both a c.reserve.new.self c.rejoin.new.ledger c.self.inside.groups c.rejoin.new.self c.args.index at.0 low at.1 c.self.invariant.1 c.rejoin.ensures,
      staying_room a c.reserve.new.self c.rejoin.new.ledger c.self.inside.groups c.rejoin.new.self c.args.index c.self.inside.bytes at.0 low at.1 c.self.invariant.3 room c.rejoin.ensures,
      called_counted c.self.inside.time c.args.session c.args.request c.reserve.new.self c.rejoin.new.ledger c.self.inside.groups c.rejoin.new.self c.args.index c.args.bytes at.0 at.1 (counted at.0 at.1) c.requires.bounded c.rejoin.ensures,
      staying_numbered a c.reserve.new.self c.rejoin.new.ledger c.self.inside.groups c.rejoin.new.self c.args.index c.self.inside.ledger.generations at.0 low at.1 c.self.invariant.4
          (ap (λ (n : Noted). n.generations) c.reserve.ensures.unchanged) c.rejoin.ensures,
      staying_first a c.reserve.new.self c.rejoin.new.ledger c.self.inside.due c.due-self-inside.result c.self.inside.groups c.rejoin.new.self c.args.index c.group.result.now low c.rejoin.ensures c.group.ensures c.due-self-inside.ensures c.self.invariant.5,
    )

pub returns-clause-calls : goal.returns-clause-calls
returns-clause-calls g c = λ name e.
    let low : c.args.index < length c.self.inside.groups = subst (λ (v : Groups). c.args.index < length v.groups) (sym c.self.view_is) c.requires.within in
    let v : Groups = record { settings = c.self.inside.settings; now = c.self.inside.time; ids = c.self.inside.ids; generations = c.self.inside.ledger.generations; groups = c.self.inside.groups; refused = c.self.inside.ledger.refusals } in
    moved_staying name (calls c.self.inside.time c.args.session c.args.request) v c.reserve.new.self c.rejoin.new.ledger c.rejoin.new.self c.args.index low c.self.invariant.1.0 c.self.invariant.1.1
    ((λ i. position (is_named name) (c.self.view_is i).groups) ∙ e) (ap (λ (n : Noted). n.generations) c.reserve.ensures.unchanged) (ap (λ (n : Noted). n.refusals) c.reserve.ensures.unchanged) c.rejoin.ensures
    ∙ ap (λ (w : Groups). move_one name (calls w.now c.args.session c.args.request) w) c.self.view_is

pub group-requires : goal.group-requires
group-requires g c =
    let low : c.args.index < length c.self.inside.groups = subst (λ (v : Groups). c.args.index < length v.groups) (sym c.self.view_is) c.requires.within in
    record { within = staying_long (calls c.self.inside.time c.args.session c.args.request) c.reserve.new.self c.rejoin.new.ledger c.self.inside.groups c.rejoin.new.self c.args.index low c.rejoin.ensures }
