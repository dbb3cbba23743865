use Rattle.std.proofs.Common.{rules}
use Rattle.cleaning_policy.specs.Partitions.{part_with_marks}
use Rattle.cleaning_policy.proofs.Changing.{part_changed}
use Rattle.cleaning_policy.proofs.policy.Policy.put_back.Goals as goal

pub returns : goal.returns
returns g c =
    rw (← c.self.view_is) (part_changed _ c.args.partition (part_with_marks c.args.now c.args.marks) c.index_mut.result.now c.put_back.new.self (search rules) c.index_mut.ensures.value c.put_back.ensures)
