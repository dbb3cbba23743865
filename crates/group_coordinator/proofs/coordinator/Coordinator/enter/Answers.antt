use Rattle.std.proofs.Common.{◌+◌, ◌∙◌, ap, nat_lt, refl, subst, sym}
use Rattle.std.specs.Prelude.{◌||◌}
use Rattle.group_coordinator.specs.declared.values.TheConstants.{MOST_BYTES, MOST_IDS}
use Rattle.group_coordinator.specs.Coordinators.{Groups, all_bytes, move_one, release, with_group}
use Rattle.group_coordinator.specs.Groups.{and_then, prepare, settle}
use Rattle.group_coordinator.specs.Joining.{plainly, with_last}
use Rattle.group_coordinator.specs.Keeping.{AreApart, ArePeopled}
use Rattle.group_coordinator.proofs.Joined.{entered_renewed, full_refuses, left_for, room_takes}
use Rattle.group_coordinator.proofs.coordinator.Coordinator.enter.Goals as goal

pub returns-then-is_full-clause-replies : goal.returns-then-is_full-clause-replies
returns-then-is_full-clause-replies g c =
    let v : Groups = c.args.self.now in
    full_refuses (all_bytes (move_one c.args.group.now (plainly (with_last c.args.member)) (with_group c.args.group.now c.args.kind.now v))) c.entered_bytes-bytes.result (v.ids + 1) v
    (move_one c.args.group.now (and_then (plainly (with_last c.args.member)) (and_then (prepare v.settings v.now) (settle v.now))) (record (with_group c.args.group.now c.args.kind.now v) { ids = v.ids + 1 })) c.args.session
    c.is_full.result c.entered_bytes-bytes.ensures refl (c.is_full.ensures ∙ ap (λ (w : Groups). nat_lt MOST_BYTES c.entered_bytes-bytes.result || nat_lt MOST_IDS (w.ids + 1)) c.self.view_is) c.if-is_full.true

pub add_member-requires : goal.add_member-requires
add_member-requires g c =
    let left = left_for (all_bytes (move_one c.args.group.now (plainly (with_last c.args.member)) (with_group c.args.group.now c.args.kind.now c.args.self.now))) c.entered_bytes-bytes.result c.args.self.now.ids c.is_full.result
    c.entered_bytes-bytes.ensures (c.is_full.ensures ∙ ap (λ (w : Groups). nat_lt MOST_BYTES c.entered_bytes-bytes.result || nat_lt MOST_IDS (w.ids + 1)) c.self.view_is) c.if-is_full.false in
    record { ids = left.1.1; joins = c.requires.joins; counted = left.0; bounded = left.1.0 }

pub returns-clause-replies : goal.returns-clause-replies
returns-clause-replies g c =
    let v : Groups = c.args.self.now in
    let apart = subst (λ (w : Groups). AreApart w.groups) c.self.view_is c.self.invariant.1.0 in
    let some = subst (λ (w : Groups). ArePeopled w.groups) c.self.view_is c.self.invariant.1.1 in
    room_takes (all_bytes (move_one c.args.group.now (plainly (with_last c.args.member)) (with_group c.args.group.now c.args.kind.now v))) c.entered_bytes-bytes.result (v.ids + 1) v
    (move_one c.args.group.now (and_then (plainly (with_last c.args.member)) (and_then (prepare v.settings v.now) (settle v.now))) (record (with_group c.args.group.now c.args.kind.now v) { ids = v.ids + 1 })) c.args.session
    c.is_full.result c.entered_bytes-bytes.ensures refl (c.is_full.ensures ∙ ap (λ (w : Groups). nat_lt MOST_BYTES c.entered_bytes-bytes.result || nat_lt MOST_IDS (w.ids + 1)) c.self.view_is) c.if-is_full.false
    ∙ ap (release c.args.session)
    (sym (entered_renewed c.args.group.now c.args.kind.now c.args.member v c.add_member.new.self c.renew_group.new.self (v.ids + 1) apart some c.in_ok-add_member.ensures.enters c.renew_group.ensures))
