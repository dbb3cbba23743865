use Rattle.std.proofs.Common.{◌∙◌, rules}
use Rattle.group_coordinator.specs.Coordinators.{preparing_fault}
use Rattle.group_coordinator.proofs.Places.{at_none, at_some}
use Rattle.group_coordinator.proofs.coordinator.Coordinator.preparing_fault.Goals as goal

pub returns-in-None : goal.returns-in-None
returns-in-None g c = at_none (preparing_fault) c.args.self.now c.args.group.now (search rules)

pub returns-in-Some : goal.returns-in-Some
returns-in-Some g c =
    c.preparing_fault.ensures ∙ at_some (preparing_fault) c.args.self.now c.args.group.now c.in-Some.index c.group.result.now (search rules) (search rules)
