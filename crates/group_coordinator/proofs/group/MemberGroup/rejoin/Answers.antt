use Rattle.std.proofs.Common.{ap}
use Rattle.group_coordinator.specs.Requests.{JoinRequest}
use Rattle.group_coordinator.proofs.Rejoining.{does_rejoin}
use Rattle.group_coordinator.proofs.group.MemberGroup.rejoin.Goals as goal

pub returns : goal.returns
returns g c =
    does_rejoin c.args.now c.args.session c.args.request c.request.inside.member.now c.args.ledger.now c.refuse_named.new.ledger c.args.self.now c.put_rejoined.new.self
    (ap (λ (q : JoinRequest). q.member) c.request.view_is) c.refuse_named.ensures c.put_rejoined.ensures
