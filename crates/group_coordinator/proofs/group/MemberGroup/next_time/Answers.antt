use Rattle.std.proofs.Common.{rules}
use Rattle.group_coordinator.specs.Times.{phase_times}
use Rattle.group_coordinator.proofs.Least.{group_least}
use Rattle.group_coordinator.proofs.group.MemberGroup.next_time.Goals as goal

pub returns : goal.returns
returns g c = group_least c.args.self.now c.args.before c.phase_time.result c.next_time.result (phase_times c.args.self.now.phase) c.phase_time.ensures (search rules)
