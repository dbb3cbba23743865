use Rattle.std.proofs.Common.{◌≡◌, ◌∙◌, false, ap, subst, sym}
use Rattle.group_coordinator.specs.Coordinators.{Groups}
use Rattle.group_coordinator.specs.Due.{ComesFirst, is_due}
use Rattle.group_coordinator.specs.Keeping.{ArePeopled}
use Rattle.group_coordinator.proofs.Due.{rests}
use Rattle.group_coordinator.proofs.coordinator.Coordinator.expire.Goals as goal

pub returns-else-is_due : goal.returns-else-is_due
returns-else-is_due g c =
    let early : is_due c.self.inside.due c.args.self.now.now ≡ false = ap (λ (v : Groups). is_due c.self.inside.due v.now) (sym c.self.view_is) ∙ sym c.is_due.ensures ∙ c.if-is_due.false in
    rests c.self.inside.due c.args.self.now early (subst (λ (v : Groups). ComesFirst c.self.inside.due v.groups) c.self.view_is c.self.invariant.5)
    (subst (λ (v : Groups). ArePeopled v.groups) c.self.view_is c.self.invariant.1.1)
