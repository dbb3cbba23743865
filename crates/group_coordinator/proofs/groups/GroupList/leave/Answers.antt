use Rattle.std.proofs.Common.{rules}
use Rattle.group_coordinator.specs.Joining.{leave}
use Rattle.group_coordinator.proofs.Finding.{finds_set}
use Rattle.group_coordinator.proofs.Lifting.{does_at}
use Rattle.group_coordinator.proofs.groups.GroupList.leave.Goals as goal

pub returns : goal.returns
returns g c =
    does_at (leave c.args.settings c.args.now c.args.id.now) c.args.ledger.now c.leave.new.ledger c.self.inside.groups.items c.args.self.now c.args.index c.index_mut.result.now c.leave.new.self
    c.self.view_is c.requires.within c.index_mut.ensures.value c.leave.ensures

pub invariant_of-self : goal.invariant_of-self
invariant_of-self g c =
    finds_set c.self.inside.names c.self.inside.groups.items c.args.index c.index_mut.result.now c.leave.new.self (search rules) (search rules) c.leave.ensures.name c.self.invariant
