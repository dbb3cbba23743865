use Rattle.block_list.proofs.Replaced.{starts_after_replace}
use Rattle.block_list.proofs.blocks.Blocks.replace.Goals as goal

pub invariant_of-self : goal.invariant_of-self
invariant_of-self g c =
    starts_after_replace c.self.inside.blocks.items c.args.self.now c.args.place.block c.args.place.index c.args.x c.index_mut.result.now c.replace.new.self c.self.inside.starts.items c.self.invariant c.self.view_is c.requires.block c.index_mut.ensures.value c.replace.ensures.replaces
