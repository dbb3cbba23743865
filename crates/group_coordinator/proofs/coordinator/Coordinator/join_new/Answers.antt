use Rattle.std.proofs.Common.{ap}
use Rattle.std.proofs.lemmas.Result.{IfOk-weaker}
use Rattle.group_coordinator.specs.Giving.{reply_by}
use Rattle.group_coordinator.specs.Requests.{JoinRequest}
use Rattle.group_coordinator.proofs.Joined.{new_replied}
use Rattle.group_coordinator.proofs.coordinator.Coordinator.join_new.Goals as goal

pub returns-clause-replies : goal.returns-clause-replies
returns-clause-replies g c =
    IfOk-weaker c.enter.result _ _
    (λ e replied. new_replied c.args.session c.args.client.now c.args.request c.args.self.now (reply_by e c.args.session c.enter.new.self) c.in_ok-member.member c.request.inside.group.now c.request.inside.kind.now
    (ap (λ (q : JoinRequest). q.group) c.request.view_is) (ap (λ (q : JoinRequest). q.kind) c.request.view_is) c.in_ok-member.ensures replied)
    c.enter.ensures.replies
