use Rattle.std.proofs.Common.{rules}
use Rattle.group_coordinator.proofs.Finding.{adds_at, finds_added, stays_at}
use Rattle.group_coordinator.proofs.groups.GroupList.add_at.Goals as goal

pub invariant_of-self : goal.invariant_of-self
invariant_of-self g c =
    finds_added c.self.inside.names c.self.inside.groups.items c.args.index c.index_mut.result.now c.add.new.self c.args.member c.add.result (search rules) c.index_mut.ensures.value c.add.ensures.adds c.add.ensures.unchanged_on_error c.self.invariant

pub returns-clause-adds : goal.returns-clause-adds
returns-clause-adds g c =
    adds_at c.self.inside.groups.items c.args.self.now c.args.index c.index_mut.result.now c.add.new.self c.args.member c.add.result c.self.view_is c.requires.within c.index_mut.ensures.value c.add.ensures.adds

pub returns-clause-unchanged_on_error : goal.returns-clause-unchanged_on_error
returns-clause-unchanged_on_error g c =
    stays_at c.self.inside.groups.items c.args.self.now c.args.index c.index_mut.result.now c.add.new.self c.add.result c.self.view_is c.index_mut.ensures.value c.add.ensures.unchanged_on_error
