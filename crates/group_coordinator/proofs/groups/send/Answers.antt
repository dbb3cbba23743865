use Rattle.std.proofs.Common.{rules}
use Rattle.group_coordinator.specs.Coordinators.{sent_group}
use Rattle.group_coordinator.proofs.Places.{changed_more}
use Rattle.group_coordinator.proofs.groups.send.Goals as goal

pub loop-group-preserved : goal.loop-group-preserved
loop-group-preserved g c =
    changed_more (sent_group c.args.session) c.args.groups.now c.loop-group.groups c.loop-group.group-index c.group-item.result c.send.new.self
    (search rules) c.loop-group.invariant c.group-item.is c.send.ensures
