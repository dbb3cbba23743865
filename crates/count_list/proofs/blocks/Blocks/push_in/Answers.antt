use Rattle.std.proofs.Common.{length}
use Rattle.std.specs.List.{sum}
use Rattle.count_list.proofs.Edited.{starts_after_growth}
use Rattle.count_list.proofs.blocks.Blocks.push_in.Goals as goal

pub invariant_of-self-2 : goal.invariant_of-self-2
invariant_of-self-2 g c = (
  starts_after_growth length c.self.inside.blocks.items c.args.self.now c.args.k c.push.new.self c.self.inside.firsts.items c.self.invariant.0 c.self.view_is c.requires.last,
  starts_after_growth sum c.self.inside.blocks.items c.args.self.now c.args.k c.push.new.self c.self.inside.sums.items c.self.invariant.1 c.self.view_is c.requires.last,
)
