use Rattle.std.proofs.Common.{rules}
use Rattle.group_coordinator.proofs.Places.{unknown_none, unknown_some}
use Rattle.group_coordinator.proofs.group.MemberGroup.unknown_fault.Goals as goal

pub returns-in-None : goal.returns-in-None
returns-in-None g c = unknown_none c.args.self.now c.args.id.now (search rules)

pub returns-in-Some : goal.returns-in-Some
returns-in-Some g c = unknown_some c.args.self.now c.args.id.now c.in-Some.field-0 (search rules)
