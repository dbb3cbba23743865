use Rattle.std.proofs.Common.{◌∙◌, get_or, rules}
use Rattle.group_coordinator.specs.Joining.{sync}
use Rattle.group_coordinator.proofs.Due.{staying_at}
use Rattle.group_coordinator.proofs.Finding.{finds_set}
use Rattle.group_coordinator.proofs.groups.GroupList.sync.Goals as goal

pub invariant_of-self : goal.invariant_of-self
invariant_of-self g c =
    finds_set c.self.inside.names c.self.inside.groups.items c.args.index c.index_mut.result.now c.sync.new.self (search rules) c.index_mut.ensures.value c.sync.ensures.name c.self.invariant

pub returns : goal.returns
returns g c = λ q same given.
    staying_at (sync c.args.now c.args.session q) c.args.ledger.now c.sync.new.ledger c.self.inside.groups.items c.args.self.now c.args.index c.index_mut.result.now c.sync.new.self c.self.view_is c.requires.within c.index_mut.ensures.value
    (c.sync.ensures.syncs q same (given c.index_mut.result.now (c.index_mut.ensures.value ∙ (λ j. get_or (c.self.view_is j) c.args.index c.index_mut.result.now))))
