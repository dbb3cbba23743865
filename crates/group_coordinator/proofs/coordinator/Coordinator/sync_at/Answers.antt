use Rattle.std.proofs.Common.{◌≡◌, ◌<◌, ◌+◌, ℕ, [], length, pos, ap, subst, sym, refl, ◌∙◌, rules}
use Rattle.std.specs.Prelude.{Some, None, ◌/◌}
use Rattle.std.specs.List.{position}
use Rattle.group_coordinator.specs.declared.values.GroupError.TheVariants.{NotAvailable}
use Rattle.group_coordinator.specs.Coordinators.{Groups, all_bytes, at_once, if_room, is_named, move_one, release}
use Rattle.group_coordinator.specs.Doing.{HasRoom, Noted, pending_of}
use Rattle.group_coordinator.specs.Keeping.{AreCounted}
use Rattle.group_coordinator.specs.Requests.{SyncRequest}
use Rattle.group_coordinator.specs.Requests.Reply.{Refused}
use Rattle.group_coordinator.specs.Joining.{sync}
use Rattle.group_coordinator.specs.Giving.{DoesStayingAt, plan_by}
use Rattle.group_coordinator.proofs.Lifting.{room_at}
use Rattle.group_coordinator.proofs.Due.{staying_first, staying_long}
use Rattle.group_coordinator.proofs.Staying.{more_room, parts_counted, planned_for, staying_both, staying_counted, staying_numbered, staying_room, sync_refused, sync_taken}
use Rattle.group_coordinator.proofs.coordinator.Coordinator.sync_at.Goals as goal

pub plan-requires-clause-counted : goal.plan-requires-clause-counted
plan-requires-clause-counted g c =
    let low : c.args.index < length c.self.inside.groups = subst (λ (v : Groups). c.args.index < length v.groups) (sym c.self.view_is) c.requires.within in
    parts_counted c.self.inside.groups c.args.index c.self.inside.bytes c.group.result.now low c.group.ensures c.self.invariant.3

pub returns-in_default-clause-replies : goal.returns-in_default-clause-replies
returns-in_default-clause-replies g c = λ name q e member parts.
    let low : c.args.index < length c.self.inside.groups = subst (λ (v : Groups). c.args.index < length v.groups) (sym c.self.view_is) c.requires.within in
    let none : None ≡ plan_by c.self.inside.bytes q.member q.parts c.group.result.now = sym c.in_default.is ∙ c.in_ok-plan.ensures ∙ (λ i. plan_by c.self.inside.bytes (sym member i) (sym parts i) c.group.result.now) in
    subst (λ (v : Groups). position (is_named name) v.groups ≡ Some c.args.index
    → if_room (all_bytes (move_one name (sync v.now c.args.session q) v)) v (move_one name (sync v.now c.args.session q) v) c.args.session ≡ at_once (Refused NotAvailable) v) c.self.view_is
    (λ p. sync_refused c.self.inside.time c.args.session q name (record { settings = c.self.inside.settings; now = c.self.inside.time; ids = c.self.inside.ids; generations = c.self.inside.ledger.generations; groups = c.self.inside.groups; refused = c.self.inside.ledger.refusals })
    c.args.index c.self.inside.bytes c.group.result.now low c.self.invariant.1.0 c.self.invariant.1.1 p c.group.ensures c.self.invariant.3 none) e

pub sync-requires-clause-room : goal.sync-requires-clause-room
sync-requires-clause-room g c = λ x at.
    let low : c.args.index < length c.self.inside.groups = subst (λ (v : Groups). c.args.index < length v.groups) (sym c.self.view_is) c.requires.within in
    more_room c.self.inside.ledger c.reserve.new.self (pending_of x.members) c.reserve.ensures.keeps c.reserve.ensures.unchanged
    (room_at c.self.inside.ledger c.self.inside.groups c.args.index low c.self.invariant.2 x at)

pub invariant_of-self-2 : goal.invariant_of-self-2
invariant_of-self-2 g c =
    let low : c.args.index < length c.self.inside.groups = subst (λ (v : Groups). c.args.index < length v.groups) (sym c.self.view_is) c.requires.within in
    let q : SyncRequest = record { group = []; generation = pos 0; member = c.args.member.now; parts = c.args.parts.now } in
    let plan : Some c.in-Some.plan ≡ plan_by c.self.inside.bytes c.args.member.now c.args.parts.now c.group.result.now = sym c.in-Some.is ∙ c.in_ok-plan.ensures in
    let does : DoesStayingAt (sync c.self.inside.time c.args.session q) c.reserve.new.self c.sync.new.ledger c.args.index c.self.inside.groups c.sync.new.self =
    c.sync.ensures q refl
    (planned_for c.self.inside.groups c.args.index c.self.inside.bytes c.group.result.now c.args.member.now c.args.parts.now c.in-Some.plan c.given.result low c.group.ensures c.self.invariant.3.1 plan c.given.ensures) in
    let room : HasRoom c.reserve.new.self (c.self.inside.bytes / 256 + c.self.inside.bytes / 256) = subst (λ (n : ℕ). HasRoom c.reserve.new.self n) c.refusals_most.ensures c.in_ok-reserve.ensures.reserves in (
      c.self.invariant.0,
      staying_both (sync c.self.inside.time c.args.session q) c.reserve.new.self c.sync.new.ledger c.self.inside.groups c.sync.new.self c.args.index c.group.result.now low c.group.ensures c.self.invariant.1 does,
      staying_room (sync c.self.inside.time c.args.session q) c.reserve.new.self c.sync.new.ledger c.self.inside.groups c.sync.new.self c.args.index c.self.inside.bytes c.group.result.now low c.group.ensures c.self.invariant.3 room
          does,
      subst (λ (n : ℕ). AreCounted n c.sync.new.self) (sym c.bytes-self-inside.ensures)
          (staying_counted c.self.inside.time c.args.session q c.reserve.new.self c.sync.new.ledger c.self.inside.groups c.sync.new.self c.args.index c.self.inside.bytes c.group.result.now c.in-Some.plan low c.group.ensures
          c.self.invariant.1.1 c.self.invariant.3 plan does),
      staying_numbered (sync c.self.inside.time c.args.session q) c.reserve.new.self c.sync.new.ledger c.self.inside.groups c.sync.new.self c.args.index c.self.inside.ledger.generations c.group.result.now low c.group.ensures
          c.self.invariant.4 (ap (λ (x : Noted). x.generations) c.reserve.ensures.unchanged) does,
      staying_first (sync c.self.inside.time c.args.session q) c.reserve.new.self c.sync.new.ledger c.self.inside.due c.due-self-inside.result c.self.inside.groups c.sync.new.self c.args.index c.group-2.result.now low does c.group-2.ensures c.due-self-inside.ensures c.self.invariant.5,
    )

pub returns-clause-replies : goal.returns-clause-replies
returns-clause-replies g c = λ name q e member parts.
    let low : c.args.index < length c.self.inside.groups = subst (λ (v : Groups). c.args.index < length v.groups) (sym c.self.view_is) c.requires.within in
    let plan : Some c.in-Some.plan ≡ plan_by c.self.inside.bytes c.args.member.now q.parts c.group.result.now = sym c.in-Some.is ∙ c.in_ok-plan.ensures ∙ (λ i. plan_by c.self.inside.bytes c.args.member.now (sym parts i) c.group.result.now) in
    let does : DoesStayingAt (sync c.self.inside.time c.args.session q) c.reserve.new.self c.sync.new.ledger c.args.index c.self.inside.groups c.sync.new.self =
    c.sync.ensures q member
    (planned_for c.self.inside.groups c.args.index c.self.inside.bytes c.group.result.now c.args.member.now q.parts c.in-Some.plan c.given.result low c.group.ensures c.self.invariant.3.1 plan c.given.ensures) in
    let behind : Groups = record {
      settings = c.self.inside.settings;
      now = c.self.inside.time;
      ids = c.self.inside.ids;
      generations = c.sync.new.ledger.generations;
      groups = c.sync.new.self;
      refused = c.sync.new.ledger.refusals;
    } in
    subst (λ (v : Groups). position (is_named name) v.groups ≡ Some c.args.index
    → if_room (all_bytes (move_one name (sync v.now c.args.session q) v)) v (move_one name (sync v.now c.args.session q) v) c.args.session ≡ release c.args.session behind) c.self.view_is
    (λ p. sync_taken c.self.inside.time c.args.session q name (record { settings = c.self.inside.settings; now = c.self.inside.time; ids = c.self.inside.ids; generations = c.self.inside.ledger.generations; groups = c.self.inside.groups; refused = c.self.inside.ledger.refusals })
    c.args.index c.self.inside.bytes c.group.result.now c.reserve.new.self c.sync.new.ledger c.sync.new.self c.in-Some.plan low c.self.invariant.1.0 c.self.invariant.1.1 p c.group.ensures c.self.invariant.3
    (plan ∙ (λ i. plan_by c.self.inside.bytes (sym member i) q.parts c.group.result.now)) (search rules) (ap (λ (x : Noted). x.generations) c.reserve.ensures.unchanged) (ap (λ (x : Noted). x.refusals) c.reserve.ensures.unchanged) does) e

pub group-requires-2 : goal.group-requires-2
group-requires-2 g c =
    let low : c.args.index < length c.self.inside.groups = subst (λ (v : Groups). c.args.index < length v.groups) (sym c.self.view_is) c.requires.within in
    let q : SyncRequest = record { group = []; generation = pos 0; member = c.args.member.now; parts = c.args.parts.now } in
    let plan : Some c.in-Some.plan ≡ plan_by c.self.inside.bytes c.args.member.now c.args.parts.now c.group.result.now = sym c.in-Some.is ∙ c.in_ok-plan.ensures in
    let does : DoesStayingAt (sync c.self.inside.time c.args.session q) c.reserve.new.self c.sync.new.ledger c.args.index c.self.inside.groups c.sync.new.self =
    c.sync.ensures q refl
    (planned_for c.self.inside.groups c.args.index c.self.inside.bytes c.group.result.now c.args.member.now c.args.parts.now c.in-Some.plan c.given.result low c.group.ensures c.self.invariant.3.1 plan c.given.ensures) in
    record { within = staying_long (sync c.self.inside.time c.args.session q) c.reserve.new.self c.sync.new.ledger c.self.inside.groups c.sync.new.self c.args.index low does }
