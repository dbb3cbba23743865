use Rattle.std.proofs.Common.{rules, ap}
use Rattle.group_coordinator.specs.Groups.{Group}
use Rattle.group_coordinator.proofs.Finding.{finds_set}
use Rattle.group_coordinator.proofs.groups.GroupList.beat.Goals as goal

pub invariant_of-self : goal.invariant_of-self
invariant_of-self g c =
    finds_set c.self.inside.names c.self.inside.groups.items c.args.index c.index_mut.result.now c.beat.new.self (search rules) (search rules) (ap (λ (x : Group). x.name) c.beat.ensures) c.self.invariant
