use Rattle.std.proofs.Common.{◌∙◌, rules}
use Rattle.group_coordinator.specs.Coordinators.{unknown_fault}
use Rattle.group_coordinator.proofs.Places.{at_none, at_some}
use Rattle.group_coordinator.proofs.coordinator.Coordinator.unknown_fault.Goals as goal

pub returns-in-None : goal.returns-in-None
returns-in-None g c = at_none (unknown_fault c.args.member.now) c.args.self.now c.args.group.now (search rules)

pub returns-in-Some : goal.returns-in-Some
returns-in-Some g c =
    c.unknown_fault.ensures ∙ at_some (unknown_fault c.args.member.now) c.args.self.now c.args.group.now c.in-Some.index c.group.result.now (search rules) (search rules)
