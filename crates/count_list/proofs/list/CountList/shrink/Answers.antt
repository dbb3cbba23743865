use Rattle.std.proofs.Common.{◌-◌, ◌∙◌, ℕ, [], get_or, set, ap, sym, arith}
use Rattle.count_list.proofs.Whole.{count_read, set_whole}
use Rattle.count_list.proofs.list.CountList.shrink.Goals as goal

pub overflow_sub-count : goal.overflow_sub-count
overflow_sub-count g c =
    let count = count_read c.self.inside.blocks c.args.self.now c.counts.result.now c.locate-place.result.block c.locate-place.result.index c.args.i c.locate-place.ensures c.self.view_is (c.counts.ensures.counts []) in
    omega (arith, count, c.requires.holds)

pub invariant_of-self : goal.invariant_of-self
invariant_of-self g c =
    let set_is = set_whole c.self.inside.blocks c.set.new.self c.args.self.now c.counts.result.now c.locate-place.result.block c.locate-place.result.index c.args.i (get_or c.counts.result.now c.locate-place.result.index 0 - c.args.n) c.locate-place.ensures c.self.view_is (c.counts.ensures.counts []) c.set.ensures in
    let count = count_read c.self.inside.blocks c.args.self.now c.counts.result.now c.locate-place.result.block c.locate-place.result.index c.args.i c.locate-place.ensures c.self.view_is (c.counts.ensures.counts []) in
    (c.self.invariant.0 ∙ sym set_is.length_is, omega (arith, c.self.invariant.1, set_is.sum_is, count, c.requires.holds))

pub returns : goal.returns
returns g c = record {
  shrinks =
      let count = count_read c.self.inside.blocks c.args.self.now c.counts.result.now c.locate-place.result.block c.locate-place.result.index c.args.i c.locate-place.ensures c.self.view_is (c.counts.ensures.counts []) in
      let set_is = set_whole c.self.inside.blocks c.set.new.self c.args.self.now c.counts.result.now c.locate-place.result.block c.locate-place.result.index c.args.i (get_or c.counts.result.now c.locate-place.result.index 0 - c.args.n) c.locate-place.ensures c.self.view_is (c.counts.ensures.counts []) c.set.ensures in
      set_is.list_is ∙ ap (λ (x : ℕ). set c.args.self.now c.args.i (x - c.args.n)) count;
}
