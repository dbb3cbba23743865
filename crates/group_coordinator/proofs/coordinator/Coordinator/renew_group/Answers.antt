use Rattle.std.proofs.Common.{arith, ◌∙◌, ap, refl, subst, rules}
use Rattle.group_coordinator.specs.Coordinators.{Groups, is_named, move_one}
use Rattle.group_coordinator.specs.Groups.{and_then, prepare, settle}
use Rattle.group_coordinator.specs.Keeping.{ArePeopled}
use Rattle.group_coordinator.proofs.Bytes.{at_most, behind_most, moved_within, within_renew}
use Rattle.group_coordinator.proofs.Due.{moved_first}
use Rattle.group_coordinator.proofs.Lifting.{moved_none, left_by, kept_by, room_at, same_long}
use Rattle.group_coordinator.proofs.Places.{within}
use Rattle.group_coordinator.proofs.coordinator.Coordinator.renew_group.Goals as goal

pub renew-requires : goal.renew-requires
renew-requires g c =
    let low = within (is_named c.args.group.now) c.self.inside.groups c.in-Some.index (search rules) in
    record {
      within = low;
      bounded = c.self.invariant.0;
      room = room_at c.self.inside.ledger c.self.inside.groups c.in-Some.index low c.self.invariant.2;
    }

pub drop_if_empty-requires : goal.drop_if_empty-requires
drop_if_empty-requires g c =
    let low = within (is_named c.args.group.now) c.self.inside.groups c.in-Some.index (search rules) in
    record { within = same_long (and_then (prepare c.self.inside.settings c.self.inside.time) (settle c.self.inside.time)) c.self.inside.ledger c.renew.new.ledger c.self.inside.groups c.renew.new.self c.in-Some.index low c.renew.ensures }

pub invariant_of-self : goal.invariant_of-self
invariant_of-self g c =
    let low = within (is_named c.args.group.now) c.self.inside.groups c.in-Some.index (search rules) in
    let kept = kept_by (and_then (prepare c.self.inside.settings c.self.inside.time) (settle c.self.inside.time)) c.self.inside.ledger c.renew.new.ledger c.self.inside.groups c.renew.new.self c.drop_if_empty.new.self c.in-Some.index
    low c.self.invariant.1 c.self.invariant.2 c.renew.ensures c.drop_if_empty.ensures in
    let counts = moved_within (and_then (prepare c.self.inside.settings c.self.inside.time) (settle c.self.inside.time)) c.self.inside.ledger c.renew.new.ledger c.self.inside.groups c.renew.new.self c.drop_if_empty.new.self c.in-Some.index c.self.inside.bytes
    c.bytes-before.result c.kept_bytes-behind.result c.group.result.now c.group-in-Some.result.now (within_renew c.self.inside.settings c.self.inside.time) low c.self.invariant.3 c.self.invariant.4 c.renew.ensures c.drop_if_empty.ensures
    c.group.ensures c.bytes-before.ensures c.group-in-Some.ensures c.kept_bytes-behind.ensures in
    let first = moved_first (and_then (prepare c.self.inside.settings c.self.inside.time) (settle c.self.inside.time)) c.self.inside.ledger c.renew.new.ledger c.self.inside.due c.due-self-inside.result c.self.inside.groups c.renew.new.self c.drop_if_empty.new.self
    c.in-Some.index c.group-in-Some-2.result.now low c.renew.ensures c.group-in-Some-2.ensures c.due-self-inside.ensures c.self.invariant.5 c.drop_if_empty.ensures in
    (c.self.invariant.0, kept.0, kept.1, counts.count, counts.numbered, first)

pub bytes-before-requires : goal.bytes-before-requires
bytes-before-requires g c =
    let low = within (is_named c.args.group.now) c.self.inside.groups c.in-Some.index (search rules) in
    record { counted = at_most c.self.inside.groups c.in-Some.index c.group.result.now c.self.inside.bytes low c.group.ensures c.self.invariant.3 }

pub kept_bytes-behind-requires : goal.kept_bytes-behind-requires
kept_bytes-behind-requires g c =
    let low = within (is_named c.args.group.now) c.self.inside.groups c.in-Some.index (search rules) in
    record {
      counted = behind_most (and_then (prepare c.self.inside.settings c.self.inside.time) (settle c.self.inside.time)) c.self.inside.ledger c.renew.new.ledger c.self.inside.groups c.renew.new.self c.in-Some.index c.self.inside.bytes c.group-in-Some.result.now
          (within_renew c.self.inside.settings c.self.inside.time) low c.self.invariant.3 c.renew.ensures c.group-in-Some.ensures;
    }

pub overflow_add-self : goal.overflow_add-self
overflow_add-self g c =
    let low = within (is_named c.args.group.now) c.self.inside.groups c.in-Some.index (search rules) in
    let counts = moved_within (and_then (prepare c.self.inside.settings c.self.inside.time) (settle c.self.inside.time)) c.self.inside.ledger c.renew.new.ledger c.self.inside.groups c.renew.new.self c.drop_if_empty.new.self c.in-Some.index c.self.inside.bytes
    c.bytes-before.result c.kept_bytes-behind.result c.group.result.now c.group-in-Some.result.now (within_renew c.self.inside.settings c.self.inside.time) low c.self.invariant.3 c.self.invariant.4 c.renew.ensures c.drop_if_empty.ensures
    c.group.ensures c.bytes-before.ensures c.group-in-Some.ensures c.kept_bytes-behind.ensures in
    omega (arith, counts.count.1)

pub returns-in-None : goal.returns-in-None
returns-in-None g c =
    moved_none c.args.group.now (and_then (prepare c.args.self.now.settings c.args.self.now.now) (settle c.args.self.now.now)) c.args.self.now (subst (λ (v : Groups). ArePeopled v.groups) c.self.view_is c.self.invariant.1.1) (search rules)

pub returns-in-Some : goal.returns-in-Some
returns-in-Some g c =
    let low = within (is_named c.args.group.now) c.self.inside.groups c.in-Some.index (search rules) in
    left_by c.args.group.now (and_then (prepare c.self.inside.settings c.self.inside.time) (settle c.self.inside.time)) (record { settings = c.self.inside.settings; now = c.self.inside.time; ids = c.self.inside.ids; generations = c.self.inside.ledger.generations; groups = c.self.inside.groups; refused = c.self.inside.ledger.refusals }) c.self.inside.ledger c.renew.new.ledger c.renew.new.self c.drop_if_empty.new.self c.in-Some.index low
    c.self.invariant.1.0 c.self.invariant.1.1 (search rules) refl refl c.renew.ensures c.drop_if_empty.ensures
    ∙ ap (λ (v : Groups). move_one c.args.group.now (and_then (prepare v.settings v.now) (settle v.now)) v) c.self.view_is
