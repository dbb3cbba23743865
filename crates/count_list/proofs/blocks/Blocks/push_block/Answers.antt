use Rattle.std.proofs.Common.{length, ◌∙◌}
use Rattle.std.specs.List.{sum}
use Rattle.count_list.proofs.Running.{length_joined, sum_joined}
use Rattle.count_list.proofs.Edited.{starts_after_push}
use Rattle.count_list.proofs.blocks.Blocks.push_block.Goals as goal

pub invariant_of-self-2 : goal.invariant_of-self-2
invariant_of-self-2 g c = (
  starts_after_push length c.self.inside.blocks.items c.args.self.now c.push.new.self.items c.in_ok-one.field-0 c.self.inside.firsts.items c.reserve.new.self.items c.push_reserved.new.self.items c.args.len c.self.invariant.0 c.self.view_is
      (c.requires.length ∙ length_joined c.args.self.now) c.reserve.ensures.items c.push_reserved.ensures.items c.in_ok-push.ensures.items,
  starts_after_push sum c.self.inside.blocks.items c.args.self.now c.push.new.self.items c.in_ok-one.field-0 c.self.inside.sums.items c.reserve-2.new.self.items c.push_reserved-2.new.self.items c.args.total c.self.invariant.1 c.self.view_is
      (c.requires.sum ∙ sum_joined c.args.self.now) c.reserve-2.ensures.items c.push_reserved-2.ensures.items c.in_ok-push.ensures.items,
)
