use Rattle.std.proofs.Common.{rules}
use Rattle.group_coordinator.specs.Groups.{and_then, prepare, settle}
use Rattle.group_coordinator.proofs.Finding.{finds_set}
use Rattle.group_coordinator.proofs.Lifting.{does_at}
use Rattle.group_coordinator.proofs.groups.GroupList.renew.Goals as goal

pub returns : goal.returns
returns g c =
    does_at (and_then (prepare c.args.settings c.args.now) (settle c.args.now)) c.args.ledger.now c.renew.new.ledger c.self.inside.groups.items c.args.self.now c.args.index c.index_mut.result.now c.renew.new.self
    c.self.view_is c.requires.within c.index_mut.ensures.value c.renew.ensures

pub invariant_of-self : goal.invariant_of-self
invariant_of-self g c =
    finds_set c.self.inside.names c.self.inside.groups.items c.args.index c.index_mut.result.now c.renew.new.self (search rules) c.index_mut.ensures.value c.renew.ensures.name c.self.invariant
