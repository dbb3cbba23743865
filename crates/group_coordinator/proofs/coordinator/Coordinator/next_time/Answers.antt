use Rattle.std.proofs.Common.{subst}
use Rattle.group_coordinator.specs.Coordinators.{Groups}
use Rattle.group_coordinator.specs.Due.{ComesFirst}
use Rattle.group_coordinator.proofs.Due.{due_before, first_of_all}
use Rattle.group_coordinator.proofs.coordinator.Coordinator.next_time.Goals as goal

pub returns-then-is_due-clause-no_later : goal.returns-then-is_due-clause-no_later
returns-then-is_due-clause-no_later g c =
    due_before c.due.result c.args.self.now (subst (λ (v : Groups). ComesFirst c.due.result v.groups) c.self.view_is (first_of_all c.due.result c.self.inside.groups c.due.ensures))

pub returns-clause-no_later : goal.returns-clause-no_later
returns-clause-no_later g c = due_before c.self.inside.due c.args.self.now (subst (λ (v : Groups). ComesFirst c.self.inside.due v.groups) c.self.view_is c.self.invariant.5)
