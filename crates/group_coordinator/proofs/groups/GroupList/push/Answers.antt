use Rattle.std.proofs.Common.{rules}
use Rattle.group_coordinator.proofs.Finding.{finds_pushed}
use Rattle.group_coordinator.proofs.groups.GroupList.push.Goals as goal

pub invariant_of-self-2 : goal.invariant_of-self-2
invariant_of-self-2 g c =
    finds_pushed c.reserve-2.new.self c.push.new.self c.self.inside.groups.items c.push_reserved.new.self.items c.args.group c.name.result.now (search rules) (search rules) (search rules) c.push.ensures.finds
