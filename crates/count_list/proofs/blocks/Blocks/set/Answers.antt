use Rattle.std.proofs.Common.{◌≡◌, ◌∙◌, ℕ, List, [], length, get_or, ap, arith, rules}
use Rattle.std.specs.List.{sum}
use Rattle.std.proofs.lemmas.List.{with_items_is}
use Rattle.count_list.proofs.Running.{sum_joined}
use Rattle.count_list.proofs.PutBack.{block_read}
use Rattle.count_list.proofs.Edited.{starts_long, starts_fit, starts_after_change, starts_after_set, length_set, sum_set, least_sum}
use Rattle.count_list.proofs.blocks.Blocks.set.Goals as goal

pub change_from-requires-clause-within : goal.change_from-requires-clause-within
change_from-requires-clause-within g c =
    omega (arith, c.deref_mut.ensures.len, starts_long sum c.self.inside.blocks.items c.args.self.now c.deref_mut.result.now (c.deref_mut.ensures.value ∙ c.self.invariant.1) c.self.view_is, c.requires.block)

pub change_from-requires-clause-fits : goal.change_from-requires-clause-fits
change_from-requires-clause-fits g c =
    let taken : get_or c.counts.result.now c.args.place.index 0 ≡ get_or (get_or c.args.self.now c.args.place.block []) c.args.place.index 0 = ap (λ (xs : List ℕ). get_or xs c.args.place.index 0) (c.counts.ensures.counts []) in
    starts_fit sum (get_or c.counts.result.now c.args.place.index 0) c.args.n c.self.inside.blocks.items c.args.self.now c.deref_mut.result.now (c.deref_mut.ensures.value ∙ c.self.invariant.1) c.self.view_is (omega (arith, c.requires.fits, sum_joined c.args.self.now, taken)) c.ranges.n.fits

pub invariant_of-self : goal.invariant_of-self
invariant_of-self g c =
    let k : ℕ = c.args.place.block in
    let b : List ℕ = get_or c.args.self.now k [] in
    let less : ℕ = get_or c.counts.result.now c.args.place.index 0 in
    let taken : less ≡ get_or b c.args.place.index 0 = ap (λ (xs : List ℕ). get_or xs c.args.place.index 0) (c.counts.ensures.counts []) in
    let read : c.index_mut.result.now ≡ b = block_read c.self.inside.blocks.items c.args.self.now k c.index_mut.result.now c.self.view_is c.requires.block c.index_mut.ensures.value in
    let summed = sum_set b c.index_mut.result.now c.set.new.self c.args.place.index c.args.n less read c.set.ensures c.requires.within taken in (
      starts_after_set length c.self.inside.blocks.items c.args.self.now k c.set.new.self c.self.inside.firsts.items c.self.invariant.0 c.self.view_is c.requires.block (length_set b c.index_mut.result.now c.set.new.self c.args.place.index c.args.n read c.set.ensures),
      starts_after_change sum less c.args.n c.self.inside.blocks.items c.args.self.now k c.set.new.self c.self.inside.sums.items c.deref_mut.result.now c.change_from.new.starts _ c.self.invariant.1 c.self.view_is c.deref_mut.ensures.value c.requires.block summed (least_sum b c.args.place.index less c.requires.within taken)
          c.change_from.ensures (with_items_is c.self.inside.sums c.change_from.new.starts (search rules)),
    )
