use Rattle.std.proofs.Common.{◌∙◌, ◌<◌, length, subst, sym}
use Rattle.group_coordinator.specs.Groups.{Group}
use Rattle.std.specs.Prelude.{List}
use Rattle.group_coordinator.proofs.Finding.{back_known, back_as}
use Rattle.group_coordinator.proofs.groups.GroupList.drop_if_empty.Goals as goal

pub refresh-requires : goal.refresh-requires
refresh-requires g c =
    let low : c.args.index < length c.self.inside.groups.items = subst (λ (xs : List Group). c.args.index < length xs) (sym c.self.view_is) c.requires.within in
    record { known = back_known c.self.inside.names c.self.inside.groups.items c.deref.result.now c.args.index low (λ x at. c.deref.ensures.value ∙ c.drop_if_empty.ensures x at) c.self.invariant }

pub returns : goal.returns
returns g c = back_as c.self.inside.groups.items c.args.self.now c.drop_if_empty.new.groups.items c.args.index c.self.view_is c.drop_if_empty.ensures
