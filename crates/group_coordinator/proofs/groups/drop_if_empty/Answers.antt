use Rattle.std.proofs.Common.{◌≡◌, ◌∙◌, length, ap, sym, rules}
use Rattle.std.specs.Prelude.{◌==◌}
use Rattle.group_coordinator.specs.Groups.{Group}
use Rattle.group_coordinator.proofs.Places.{same_at}
use Rattle.group_coordinator.proofs.Lifting.{back_dropped, back_kept}
use Rattle.group_coordinator.proofs.groups.drop_if_empty.Goals as goal

pub returns-then-is_empty : goal.returns-then-is_empty
returns-then-is_empty g c = λ x at.
    let same : c.index.result.now ≡ x = same_at c.args.groups.now.items c.args.index c.index.result.now x c.requires.within (search rules) at in
    c.remove.ensures.by_index.2
    ∙ back_dropped c.args.groups.now.items c.args.index x c.requires.within (ap (λ (y : Group). 0 == length y.members) (sym same) ∙ sym c.is_empty.ensures ∙ c.if-is_empty.true)

pub returns-else-is_empty : goal.returns-else-is_empty
returns-else-is_empty g c = λ x at.
    let same : c.index.result.now ≡ x = same_at c.args.groups.now.items c.args.index c.index.result.now x c.requires.within (search rules) at in
    back_kept c.args.groups.now.items c.args.index x c.requires.within at (ap (λ (y : Group). 0 == length y.members) (sym same) ∙ sym c.is_empty.ensures ∙ c.if-is_empty.false)
