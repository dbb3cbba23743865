use Rattle.std.proofs.Common.{◌≡◌, ◌+◌, [], take, arith}
use Rattle.std.specs.List.{sum}
use Rattle.count_list.specs.Blocks.{joined}
use Rattle.count_list.proofs.Running.{start_read, before_in, before_fits}
use Rattle.count_list.proofs.Edited.{starts_long}
use Rattle.count_list.proofs.blocks.Blocks.before.Goals as goal

pub index-requires : goal.index-requires
index-requires g c =
    omega (arith, c.locate-place.ensures.block, c.self.inside.sums.ok.0, starts_long sum c.self.inside.blocks.items c.args.self.now c.self.inside.sums.items c.self.invariant.1 c.self.view_is)

before : (g : _) (c : goal.After-sum_of g) → c.index.result.now + sum (take c.locate-place.result.index c.counts.result.now) ≡ sum (take c.args.i (joined c.args.self.now))
before g c =
    before_in c.args.self.now c.locate-place.result.block c.locate-place.result.index c.args.i c.index.result.now c.counts.result.now c.locate-place.ensures (c.counts.ensures.counts [])
    (start_read sum c.locate-place.result.block c.self.inside.blocks.items c.args.self.now c.self.inside.sums.items c.index.result.now c.self.view_is c.self.invariant.1 c.locate-place.ensures.block c.index.ensures)

pub sum_of-requires : goal.sum_of-requires
sum_of-requires g c = record {
  fits =
      let before = before_in c.args.self.now c.locate-place.result.block c.locate-place.result.index c.args.i c.index.result.now c.counts.result.now c.locate-place.ensures (c.counts.ensures.counts [])
      (start_read sum c.locate-place.result.block c.self.inside.blocks.items c.args.self.now c.self.inside.sums.items c.index.result.now c.self.view_is c.self.invariant.1 c.locate-place.ensures.block c.index.ensures) in
      omega (arith, before, before_fits c.args.self.now c.args.i c.requires.fits);
}

pub overflow_add-result : goal.overflow_add-result
overflow_add-result g c = omega (arith, before g c, before_fits c.args.self.now c.args.i c.requires.fits, c.sum_of.ensures)

pub returns : goal.returns
returns g c = omega (arith, before g c, c.sum_of.ensures)
