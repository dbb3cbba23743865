use Rattle.group_coordinator.proofs.Finding.{finds_sent}
use Rattle.group_coordinator.proofs.groups.GroupList.send.Goals as goal

pub invariant_of-self : goal.invariant_of-self
invariant_of-self g c =
    finds_sent c.self.inside.names c.args.session c.self.inside.groups.len c.self.inside.groups.items c.as_mut_slice.result.now c.send.new.groups c.as_mut_slice.ensures.value c.as_mut_slice.ensures.len c.send.ensures c.self.invariant
