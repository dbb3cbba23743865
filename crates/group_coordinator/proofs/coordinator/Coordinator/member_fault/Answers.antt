use Rattle.std.proofs.Common.{◌∙◌, refl, sym}
use Rattle.std.specs.Int.{w32}
use Rattle.std.proofs.lemmas.Int.{to_z-of_z}
use Rattle.group_coordinator.specs.Coordinators.{group_fault, group_named, member_fault}
use Rattle.group_coordinator.proofs.Asking.{first_fault, next_fault}
use Rattle.group_coordinator.proofs.coordinator.Coordinator.member_fault.Goals as goal

pub returns-in-Some : goal.returns-in-Some
returns-in-Some g c =
    first_fault (group_fault c.args.self.now.settings c.args.group.now) (member_fault c.args.generation c.args.member.now (group_named c.args.group.now c.args.self.now)) _ c.in-Some.error (sym c.group_fault.ensures ∙ c.in-Some.is) refl

pub returns-in-None : goal.returns-in-None
returns-in-None g c =
    next_fault (group_fault c.args.self.now.settings c.args.group.now) (member_fault c.args.generation c.args.member.now (group_named c.args.group.now c.args.self.now)) c.told_fault.result (sym c.group_fault.ensures ∙ c.in-None.is) (c.told_fault.ensures ∙ (λ i. member_fault (to_z-of_z w32 c.args.generation c.ranges.generation i) c.args.member.now (group_named c.args.group.now c.args.self.now)))
