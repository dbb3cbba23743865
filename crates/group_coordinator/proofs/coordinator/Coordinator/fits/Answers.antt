use Rattle.std.proofs.Common.{◌∙◌, ap, get_or}
use Rattle.std.specs.Prelude.{Some, None}
use Rattle.group_coordinator.specs.Coordinators.{Groups, protocol_fits}
use Rattle.group_coordinator.specs.Requests.{JoinRequest}
use Rattle.group_coordinator.proofs.Entering.{place_as}
use Rattle.group_coordinator.proofs.Places.{at_none, at_some}
use Rattle.group_coordinator.proofs.coordinator.Coordinator.fits.Goals as goal

pub returns-in-None : goal.returns-in-None
returns-in-None g c =
    c.may_be_first.ensures
    ∙ at_none (protocol_fits c.args.request.now) c.args.self.now c.args.request.now.group
    (place_as c.request.inside.group.now c.args.request.now.group c.self.inside.groups c.args.self.now.groups c.index_of.result None (ap (λ (q : JoinRequest). q.group) c.request.view_is)
    (ap (λ (v : Groups). v.groups) c.self.view_is) c.index_of.ensures c.in-None.is)

pub returns-in-Some : goal.returns-in-Some
returns-in-Some g c =
    let groups = ap (λ (v : Groups). v.groups) c.self.view_is in
    c.protocol_fits.ensures
    ∙ at_some (protocol_fits c.args.request.now) c.args.self.now c.args.request.now.group c.in-Some.index c.group.result.now
    (place_as c.request.inside.group.now c.args.request.now.group c.self.inside.groups c.args.self.now.groups c.index_of.result (Some c.in-Some.index) (ap (λ (q : JoinRequest). q.group) c.request.view_is)
    groups c.index_of.ensures c.in-Some.is)
    (c.group.ensures ∙ (λ i. get_or (groups i) c.in-Some.index c.group.result.now))
