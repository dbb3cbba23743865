use Rattle.std.proofs.Common.{[], arith}
use Rattle.count_list.proofs.Whole.{remove_whole}
use Rattle.count_list.proofs.list.CountList.remove.Goals as goal

pub overflow_sub-self-2 : goal.overflow_sub-self-2
overflow_sub-self-2 g c =
    let removed = remove_whole c.self.inside.blocks c.remove.new.self c.args.self.now c.counts.result.now c.locate-place.result.block c.locate-place.result.index c.args.i c.locate-place.ensures c.self.view_is (c.counts.ensures.counts []) c.remove.ensures in
    omega (arith, c.self.invariant.1, removed.sum_is)

pub invariant_of-self : goal.invariant_of-self
invariant_of-self g c =
    let removed = remove_whole c.self.inside.blocks c.remove.new.self c.args.self.now c.counts.result.now c.locate-place.result.block c.locate-place.result.index c.args.i c.locate-place.ensures c.self.view_is (c.counts.ensures.counts []) c.remove.ensures in
    (omega (arith, c.self.invariant.0, removed.length_is), omega (arith, c.self.invariant.1, removed.sum_is))

pub returns : goal.returns
returns g c = record {
  removes = (remove_whole c.self.inside.blocks c.remove.new.self c.args.self.now c.counts.result.now c.locate-place.result.block c.locate-place.result.index c.args.i c.locate-place.ensures c.self.view_is (c.counts.ensures.counts []) c.remove.ensures).list_is;
}
