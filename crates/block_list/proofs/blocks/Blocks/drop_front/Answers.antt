use Rattle.std.proofs.Common.{◌∙◌, arith, rules}
use Rattle.std.proofs.lemmas.List.{with_items_is}
use Rattle.block_list.proofs.Edited.{starts_long}
use Rattle.block_list.proofs.Front.{joined_after_cut, starts_after_cut}
use Rattle.block_list.proofs.blocks.Blocks.drop_front.Goals as goal

pub drain-requires-2-clause-in_bounds : goal.drain-requires-2-clause-in_bounds
drain-requires-2-clause-in_bounds g c =
    omega (arith, c.self.inside.starts.ok.0, starts_long c.self.inside.blocks.items c.args.self.now c.self.inside.starts.items c.self.invariant c.self.view_is, c.locate-place.ensures.block)

pub invariant_of-self : goal.invariant_of-self
invariant_of-self g c =
    starts_after_cut c.self.inside.blocks.items c.args.self.now c.drop-drain.new.self.0.items c.locate-place.result.block c.locate-place.result.index c.args.count c.index_mut.result.now c.drop_front.new.self c.self.inside.starts.items c.deref_mut.result.now _ c.self.view_is c.locate-place.ensures
    (c.drop-drain.ensures.items ∙ c.drain.ensures.kept) c.index_mut.ensures.value c.drop_front.ensures c.self.invariant (c.deref_mut.ensures.value ∙ c.drop-drain-2.ensures.items ∙ c.drain-2.ensures.kept)
    (with_items_is c.drop-drain-2.new.self.0 c.count_fewer.new.starts (search rules) ∙ c.count_fewer.ensures)

pub returns : goal.returns
returns g c =
    joined_after_cut c.self.inside.blocks.items c.args.self.now c.drop-drain.new.self.0.items c.locate-place.result.block c.locate-place.result.index c.args.count c.index_mut.result.now c.drop_front.new.self c.self.view_is c.locate-place.ensures
    (c.drop-drain.ensures.items ∙ c.drain.ensures.kept) c.index_mut.ensures.value c.drop_front.ensures
