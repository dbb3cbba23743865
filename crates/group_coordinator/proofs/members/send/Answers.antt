use Rattle.std.proofs.Common.{rules}
use Rattle.group_coordinator.specs.Coordinators.{sent}
use Rattle.group_coordinator.proofs.Places.{changed_more}
use Rattle.group_coordinator.proofs.members.send.Goals as goal

pub loop-member-preserved : goal.loop-member-preserved
loop-member-preserved g c =
    changed_more (sent c.args.session) c.args.members.now c.loop-member.members c.loop-member.member-index c.member-item.result c.send.new.self
    (search rules) c.loop-member.invariant c.member-item.is c.send.ensures
