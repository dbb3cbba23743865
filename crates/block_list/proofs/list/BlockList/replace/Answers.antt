use Rattle.std.proofs.Common.{◌∙◌, List, length, get_or, sym, ap}
use Rattle.std.proofs.lemmas.List.{length-set}
use Rattle.block_list.proofs.Running.{element_in}
use Rattle.block_list.proofs.Replaced.{set_in}
use Rattle.block_list.proofs.list.BlockList.replace.Goals as goal

pub invariant_of-self : goal.invariant_of-self
invariant_of-self g c =
    c.self.invariant
    ∙ sym (ap (λ (xs : List _). length xs) (set_in c.self.inside.blocks c.replace.new.self c.args.self.now c.locate-place.result.block c.locate-place.result.index c.args.i c.args.x c.locate-place.ensures c.self.view_is c.replace.ensures.replaces)
    ∙ length-set c.args.self.now c.args.i c.args.x ∙ sym (ap (λ (xs : List _). length xs) c.self.view_is))

pub returns-clause-replaces : goal.returns-clause-replaces
returns-clause-replaces g c =
    set_in c.self.inside.blocks c.replace.new.self c.args.self.now c.locate-place.result.block c.locate-place.result.index c.args.i c.args.x c.locate-place.ensures c.self.view_is c.replace.ensures.replaces

pub returns-clause-gives : goal.returns-clause-gives
returns-clause-gives g c d =
    c.replace.ensures.gives d ∙ sym (element_in c.self.inside.blocks c.locate-place.result.block c.locate-place.result.index c.args.i d c.locate-place.ensures) ∙ ap (λ (xs : List _). get_or xs c.args.i d) c.self.view_is
