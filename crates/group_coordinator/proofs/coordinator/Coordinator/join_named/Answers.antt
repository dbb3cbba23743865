use Rattle.std.proofs.Common.{◌≤◌, ap, rules, subst}
use Rattle.std.proofs.lemmas.Result.{IfOk-weaker}
use Rattle.std.specs.Prelude.{None, Some}
use Rattle.group_coordinator.specs.declared.values.TheConstants.{MOST_IDS}
use Rattle.group_coordinator.specs.Coordinators.{Groups}
use Rattle.group_coordinator.specs.Keeping.{AreCounted, ArePeopled}
use Rattle.group_coordinator.specs.Requests.{JoinRequest}
use Rattle.group_coordinator.proofs.Again.{rejoin_nowhere}
use Rattle.group_coordinator.proofs.Entering.{place_as}
use Rattle.group_coordinator.proofs.coordinator.Coordinator.join_named.Goals as goal

pub returns-in-Some-clause-replies : goal.returns-in-Some-clause-replies
returns-in-Some-clause-replies g c =
    let place = place_as c.request.inside.group.now c.args.request.group c.self.inside.groups c.args.self.now.groups c.index_of.result (Some c.in-Some.index) (ap (λ (q : JoinRequest). q.group) c.request.view_is)
    (ap (λ (v : Groups). v.groups) c.self.view_is) c.index_of.ensures c.in-Some.is in
    IfOk-weaker c.rejoin_at.result _ _ (λ e replied. replied place) c.rejoin_at.ensures.replies

pub returns-in-None-clause-replies : goal.returns-in-None-clause-replies
returns-in-None-clause-replies g c =
    let none = place_as c.request.inside.group.now c.args.request.group c.self.inside.groups c.args.self.now.groups c.index_of.result None (ap (λ (q : JoinRequest). q.group) c.request.view_is)
    (ap (λ (v : Groups). v.groups) c.self.view_is) c.index_of.ensures c.in-None.is in
    let ids : c.self.inside.ids ≤ MOST_IDS = search rules in
    rejoin_nowhere c.args.session c.args.request c.args.self.now c.self.inside.bytes (subst (λ (v : Groups). ArePeopled v.groups) c.self.view_is c.self.invariant.1.1) none
    (subst (λ (v : Groups). AreCounted c.self.inside.bytes v.groups) c.self.view_is c.self.invariant.3) (subst (λ (v : Groups). v.ids ≤ MOST_IDS) c.self.view_is ids)
