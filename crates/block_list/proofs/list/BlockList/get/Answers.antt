use Rattle.block_list.proofs.Running.{element_read}
use Rattle.block_list.proofs.list.BlockList.get.Goals as goal

pub returns : goal.returns
returns g c = record {
  is_there = λ d.
      element_read c.self.inside.blocks c.items.result.now c.args.self.now c.locate-place.result.block c.locate-place.result.index c.args.i c.index-items-place.result d c.locate-place.ensures c.items.ensures.items c.index-items-place.is c.self.view_is;
}
