use Rattle.std.proofs.Common.{rules}
use Rattle.group_coordinator.proofs.Finding.{finds_set}
use Rattle.group_coordinator.proofs.groups.GroupList.tell.Goals as goal

pub invariant_of-self : goal.invariant_of-self
invariant_of-self g c =
    finds_set c.self.inside.names c.self.inside.groups.items c.args.index c.index_mut.result.now c.tell.new.self (search rules) c.index_mut.ensures.value c.tell.ensures.name c.self.invariant
