use Rattle.std.proofs.Common.{rules}
use Rattle.group_coordinator.specs.Groups.{begun_member}
use Rattle.group_coordinator.proofs.Places.{changed_more}
use Rattle.group_coordinator.proofs.members.begin.Goals as goal

pub loop-member-preserved : goal.loop-member-preserved
loop-member-preserved g c =
    changed_more (begun_member c.args.now) c.args.members.now c.loop-member.members c.loop-member.member-index c.member-item.result c.begin.new.self
    (search rules) c.loop-member.invariant c.member-item.is c.begin.ensures
