use Rattle.std.proofs.Common.{◌∙◌, refl, sym}
use Rattle.group_coordinator.specs.Coordinators.{group_fault, group_named, unknown_fault}
use Rattle.group_coordinator.proofs.Asking.{first_fault, next_fault}
use Rattle.group_coordinator.proofs.coordinator.Coordinator.leave_fault.Goals as goal

pub returns-in-Some : goal.returns-in-Some
returns-in-Some g c =
    first_fault (group_fault c.args.self.now.settings c.args.group.now) (unknown_fault c.args.member.now (group_named c.args.group.now c.args.self.now)) _ c.in-Some.error (sym c.group_fault.ensures ∙ c.in-Some.is) refl

pub returns-in-None : goal.returns-in-None
returns-in-None g c =
    next_fault (group_fault c.args.self.now.settings c.args.group.now) (unknown_fault c.args.member.now (group_named c.args.group.now c.args.self.now)) c.unknown_fault.result (sym c.group_fault.ensures ∙ c.in-None.is) (c.unknown_fault.ensures)
