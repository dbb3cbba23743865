use Rattle.std.proofs.Common.{rules}
use Rattle.group_coordinator.specs.Joining.{unwaited}
use Rattle.group_coordinator.proofs.Places.{changed_more}
use Rattle.group_coordinator.proofs.members.stop_waiting.Goals as goal

pub loop-member-preserved : goal.loop-member-preserved
loop-member-preserved g c =
    changed_more (unwaited c.args.now c.args.session) c.args.members.now c.loop-member.members c.loop-member.member-index c.member-item.result c.end_session.new.self
    (search rules) c.loop-member.invariant c.member-item.is c.end_session.ensures
