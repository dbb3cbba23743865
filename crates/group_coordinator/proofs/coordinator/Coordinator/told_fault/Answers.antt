use Rattle.std.proofs.Common.{◌∙◌, rules}
use Rattle.std.specs.Int.{w32}
use Rattle.std.proofs.lemmas.Int.{to_z-of_z}
use Rattle.group_coordinator.specs.Coordinators.{generation_fault, member_fault, member_of}
use Rattle.group_coordinator.proofs.Places.{at_none, at_some}
use Rattle.group_coordinator.proofs.coordinator.Coordinator.told_fault.Goals as goal

pub returns-in-None : goal.returns-in-None
returns-in-None g c = at_none (member_fault c.args.generation c.args.member.now) c.args.self.now c.args.group.now (search rules)

pub returns-in-Some : goal.returns-in-Some
returns-in-Some g c =
    c.generation_fault.ensures
    ∙ (λ i. generation_fault c.group.result.now (to_z-of_z w32 c.args.generation c.ranges.generation i) (member_of c.args.member.now c.group.result.now))
    ∙ at_some (member_fault c.args.generation c.args.member.now) c.args.self.now c.args.group.now c.in-Some.index c.group.result.now (search rules) (search rules)
