use Rattle.block_list.proofs.Edited.{starts_after_push}
use Rattle.block_list.proofs.blocks.Blocks.push_block.Goals as goal

pub invariant_of-self-2 : goal.invariant_of-self-2
invariant_of-self-2 g c =
    starts_after_push c.self.inside.blocks.items c.args.self.now c.push.new.self.items c.in_ok-one.field-0 c.self.inside.starts.items c.reserve.new.self.items c.push_reserved.new.self.items c.args.len c.self.invariant c.self.view_is c.requires
    c.reserve.ensures.items c.push_reserved.ensures.items c.in_ok-push.ensures.items
