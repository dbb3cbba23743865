use Rattle.std.proofs.Common.{rules}
use Rattle.group_coordinator.proofs.Asking.{leave_refused, leave_done}
use Rattle.group_coordinator.proofs.coordinator.Coordinator.leave.Goals as goal

pub returns-in-Some : goal.returns-in-Some
returns-in-Some g c = leave_refused c.args.self.now c.args.group.now c.args.member.now c.leave_fault.result c.in-Some.error c.leave_fault.ensures (search rules)

pub returns-in-None : goal.returns-in-None
returns-in-None g c =
    leave_done c.args.self.now c.leave_group.new.self c.args.group.now c.args.member.now c.leave_fault.result c.leave_fault.ensures (search rules) c.leave_group.ensures
