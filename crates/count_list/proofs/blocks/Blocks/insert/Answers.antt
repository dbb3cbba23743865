use Rattle.std.proofs.Common.{◌≡◌, ◌∙◌, ℕ, List, [], length, get_or, arith, rules}
use Rattle.std.specs.List.{sum}
use Rattle.std.proofs.lemmas.List.{with_items_is}
use Rattle.count_list.proofs.Running.{length_joined, sum_joined}
use Rattle.count_list.proofs.PutBack.{block_read}
use Rattle.count_list.proofs.Edited.{starts_long, starts_fit, starts_after_change, length_inserted, sum_inserted}
use Rattle.count_list.proofs.blocks.Blocks.insert.Goals as goal

pub change_from-requires-clause-within : goal.change_from-requires-clause-within
change_from-requires-clause-within g c =
    omega (arith, c.deref_mut.ensures.len, starts_long length c.self.inside.blocks.items c.args.self.now c.deref_mut.result.now (c.deref_mut.ensures.value ∙ c.self.invariant.0) c.self.view_is, c.requires.block)

pub change_from-requires-clause-fits : goal.change_from-requires-clause-fits
change_from-requires-clause-fits g c =
    starts_fit length 0 1 c.self.inside.blocks.items c.args.self.now c.deref_mut.result.now (c.deref_mut.ensures.value ∙ c.self.invariant.0) c.self.view_is (omega (arith, c.requires.fits, length_joined c.args.self.now)) (omega arith)

pub change_from-requires-2-clause-within : goal.change_from-requires-2-clause-within
change_from-requires-2-clause-within g c =
    omega (arith, c.deref_mut-2.ensures.len, starts_long sum c.self.inside.blocks.items c.args.self.now c.deref_mut-2.result.now (c.deref_mut-2.ensures.value ∙ c.self.invariant.1) c.self.view_is, c.requires.block)

pub change_from-requires-2-clause-fits : goal.change_from-requires-2-clause-fits
change_from-requires-2-clause-fits g c =
    starts_fit sum 0 c.args.n c.self.inside.blocks.items c.args.self.now c.deref_mut-2.result.now (c.deref_mut-2.ensures.value ∙ c.self.invariant.1) c.self.view_is (omega (arith, c.requires.sum_fits, sum_joined c.args.self.now)) (omega (arith, c.requires.sum_fits))

pub invariant_of-self-2 : goal.invariant_of-self-2
invariant_of-self-2 g c =
    let k : ℕ = c.args.place.block in
    let b : List ℕ = get_or c.args.self.now k [] in
    let read : c.index_mut.result.now ≡ b = block_read c.self.inside.blocks.items c.args.self.now k c.index_mut.result.now c.self.view_is c.requires.block c.index_mut.ensures.value in
    let counted = length_inserted b c.index_mut.result.now c.insert.new.self c.args.place.index c.args.n read c.in_ok-insert.ensures c.requires.within in
    let summed = sum_inserted b c.index_mut.result.now c.insert.new.self c.args.place.index c.args.n read c.in_ok-insert.ensures in (
      starts_after_change length 0 1 c.self.inside.blocks.items c.args.self.now k c.insert.new.self c.self.inside.firsts.items c.deref_mut.result.now c.change_from.new.starts _ c.self.invariant.0 c.self.view_is c.deref_mut.ensures.value c.requires.block counted (omega arith)
          c.change_from.ensures (with_items_is c.self.inside.firsts c.change_from.new.starts (search rules)),
      starts_after_change sum 0 c.args.n c.self.inside.blocks.items c.args.self.now k c.insert.new.self c.self.inside.sums.items c.deref_mut-2.result.now c.change_from-2.new.starts _ c.self.invariant.1 c.self.view_is c.deref_mut-2.ensures.value c.requires.block summed (omega arith)
          c.change_from-2.ensures (with_items_is c.self.inside.sums c.change_from-2.new.starts (search rules)),
    )
