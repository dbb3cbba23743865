use Rattle.std.proofs.Common.{◌≡◌, ◌+◌, ◌∙◌, ℕ, List, [], length, take, drop, get_or, ap, length-drop, arith, rules}
use Rattle.std.specs.List.{sum, sum_by}
use Rattle.std.proofs.lemmas.List.{with_items_is}
use Rattle.count_list.proofs.Running.{length_joined, sum_joined, sum_in}
use Rattle.count_list.proofs.Edited.{starts_long, sum_parts}
use Rattle.count_list.proofs.Front.{joined_after_cut, front_read, starts_after_cut, cut_fits}
use Rattle.count_list.proofs.blocks.Blocks.drop_front.Goals as goal

pub drain-requires-2-clause-in_bounds : goal.drain-requires-2-clause-in_bounds
drain-requires-2-clause-in_bounds g c =
    omega (arith, c.self.inside.firsts.ok.0, starts_long length c.self.inside.blocks.items c.args.self.now c.self.inside.firsts.items c.self.invariant.0 c.self.view_is, c.locate-place.ensures.block)

pub drain-requires-3-clause-in_bounds : goal.drain-requires-3-clause-in_bounds
drain-requires-3-clause-in_bounds g c =
    omega (arith, c.self.inside.sums.ok.0, starts_long sum c.self.inside.blocks.items c.args.self.now c.self.inside.sums.items c.self.invariant.1 c.self.view_is, c.locate-place.ensures.block)

pub change_from-requires-clause-fits : goal.change_from-requires-clause-fits
change_from-requires-clause-fits g c =
    cut_fits length c.self.inside.blocks.items c.args.self.now c.locate-place.result.block c.args.count c.self.inside.firsts.items c.deref_mut.result.now c.self.invariant.0 c.self.view_is (omega (arith, c.requires.fits, length_joined c.args.self.now))
    (c.deref_mut.ensures.value ∙ c.drop-drain-2.ensures.items ∙ c.drain-2.ensures.kept)

pub change_from-requires-2-clause-fits : goal.change_from-requires-2-clause-fits
change_from-requires-2-clause-fits g c =
    cut_fits sum c.self.inside.blocks.items c.args.self.now c.locate-place.result.block c.before-gone.result c.self.inside.sums.items c.deref_mut-2.result.now c.self.invariant.1 c.self.view_is (omega (arith, c.requires.sum_fits, sum_joined c.args.self.now))
    (c.deref_mut-2.ensures.value ∙ c.drop-drain-3.ensures.items ∙ c.drain-3.ensures.kept)

pub invariant_of-self : goal.invariant_of-self
invariant_of-self g c =
    let bs : List (List ℕ) = c.args.self.now in
    let k : ℕ = c.locate-place.result.block in
    let j : ℕ = c.locate-place.result.index in
    let block : List ℕ = get_or bs k [] in
    let left : c.drop-drain.new.self.0.items ≡ drop k c.self.inside.blocks.items = c.drop-drain.ensures.items ∙ c.drain.ensures.kept in
    let front : c.drop_front.new.self ≡ drop j block = front_read c.self.inside.blocks.items bs c.drop-drain.new.self.0.items k j c.index_mut.result.now c.drop_front.new.self c.self.view_is c.locate-place.ensures.block left c.index_mut.ensures.value c.drop_front.ensures in
    let long : length c.drop_front.new.self ≡ length (drop j block) = ap (λ (xs : List ℕ). length xs) front in
    let rest : sum c.drop_front.new.self ≡ sum (drop j block) = ap (λ (xs : List ℕ). sum xs) front in
    let gone : c.before-gone.result ≡ sum_by sum (take k bs) + sum (take j block) = c.before-gone.ensures ∙ sum_in bs k j c.args.count c.locate-place.ensures.block (omega (arith, c.locate-place.ensures.within)) c.locate-place.ensures.sum in
    let counted : c.args.count + length c.drop_front.new.self ≡ sum_by length (take k bs) + length block = omega (arith, c.locate-place.ensures.sum, c.locate-place.ensures.within, long, length-drop j block) in
    let summed : c.before-gone.result + sum c.drop_front.new.self ≡ sum_by sum (take k bs) + sum block = omega (arith, gone, rest, sum_parts j block) in (
      starts_after_cut length c.self.inside.blocks.items bs c.drop-drain.new.self.0.items k c.args.count c.drop_front.new.self c.self.inside.firsts.items c.deref_mut.result.now _ c.self.view_is c.locate-place.ensures.block left counted (omega (arith, c.locate-place.ensures.sum)) c.self.invariant.0
          (c.deref_mut.ensures.value ∙ c.drop-drain-2.ensures.items ∙ c.drain-2.ensures.kept) (with_items_is c.drop-drain-2.new.self.0 c.change_from.new.starts (search rules) ∙ c.change_from.ensures),
      starts_after_cut sum c.self.inside.blocks.items bs c.drop-drain.new.self.0.items k c.before-gone.result c.drop_front.new.self c.self.inside.sums.items c.deref_mut-2.result.now _ c.self.view_is c.locate-place.ensures.block left summed (omega (arith, gone)) c.self.invariant.1
          (c.deref_mut-2.ensures.value ∙ c.drop-drain-3.ensures.items ∙ c.drain-3.ensures.kept) (with_items_is c.drop-drain-3.new.self.0 c.change_from-2.new.starts (search rules) ∙ c.change_from-2.ensures),
    )

pub returns : goal.returns
returns g c =
    joined_after_cut c.self.inside.blocks.items c.args.self.now c.drop-drain.new.self.0.items c.locate-place.result.block c.locate-place.result.index c.args.count c.index_mut.result.now c.drop_front.new.self c.self.view_is c.locate-place.ensures
    (c.drop-drain.ensures.items ∙ c.drain.ensures.kept) c.index_mut.ensures.value c.drop_front.ensures
