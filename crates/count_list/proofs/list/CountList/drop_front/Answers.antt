use Rattle.std.proofs.Common.{arith}
use Rattle.count_list.proofs.Whole.{length_dropped, sum_dropped}
use Rattle.count_list.proofs.list.CountList.drop_front.Goals as goal

pub invariant_of-self-2 : goal.invariant_of-self-2
invariant_of-self-2 g c = (
  omega (arith, c.self.invariant.0, length_dropped c.self.inside.blocks c.drop_front.new.self c.args.count c.drop_front.ensures),
  omega (arith, c.self.invariant.1, sum_dropped c.self.inside.blocks c.drop_front.new.self c.args.count c.before-gone.result c.drop_front.ensures c.before-gone.ensures),
)
