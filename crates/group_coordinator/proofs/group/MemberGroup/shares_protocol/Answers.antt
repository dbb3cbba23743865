use Rattle.std.proofs.Common.{◌∙◌, ap, rules}
use Rattle.group_coordinator.specs.Requests.{JoinRequest}
use Rattle.group_coordinator.proofs.Rejoining.{shares_same}
use Rattle.group_coordinator.proofs.group.MemberGroup.shares_protocol.Goals as goal

pub returns : goal.returns
returns g c =
    shares_same c.args.self.now.members c.deref.result.now c.args.request.now.member c.request.inside.member.now c.args.request.now.protocols c.list.result.now c.have_common_but.result (search rules)
    (ap (λ (q : JoinRequest). q.member) c.request.view_is) (c.list.ensures ∙ ap (λ (q : JoinRequest). q.protocols) c.request.view_is) c.have_common_but.ensures
