use Rattle.std.proofs.Common.{ap}
use Rattle.group_coordinator.specs.Coordinators.{Groups}
use Rattle.group_coordinator.specs.Requests.{JoinRequest}
use Rattle.group_coordinator.proofs.Again.{rejoined_read}
use Rattle.group_coordinator.proofs.coordinator.Coordinator.rejoined_bytes.Goals as goal

pub returns : goal.returns
returns g c =
    rejoined_read c.args.self.now.now c.args.request.now c.self.inside.groups c.args.self.now.groups c.args.index c.args.member c.group.result.now c.request.inside.protocols c.self.inside.bytes c.protocol_bytes.result c.bytes.result
    c.saturating_sub.result c.saturating_add.result (ap (λ (v : Groups). v.groups) c.self.view_is) c.requires.within c.requires.member c.group.ensures c.self.invariant.3 c.protocol_bytes.ensures
    (ap (λ (q : JoinRequest). q.protocols) c.request.view_is) c.bytes.ensures c.saturating_sub.ensures c.saturating_add.ensures
