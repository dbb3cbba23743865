use Rattle.std.proofs.Common.{◌∙◌, get_or, rules}
use Rattle.group_coordinator.specs.Groups.{and_then}
use Rattle.group_coordinator.specs.Joining.{call, plainly, rejoined, with_member}
use Rattle.group_coordinator.proofs.Due.{staying_at}
use Rattle.group_coordinator.proofs.Finding.{finds_set}
use Rattle.group_coordinator.proofs.groups.GroupList.rejoin.Goals as goal

pub rejoin-requires-clause-only : goal.rejoin-requires-clause-only
rejoin-requires-clause-only g c = (c.requires.member c.index_mut.result.now (c.index_mut.ensures.value ∙ (λ j. get_or (c.self.view_is j) c.args.index c.index_mut.result.now))).1

pub rejoin-requires-clause-room : goal.rejoin-requires-clause-room
rejoin-requires-clause-room g c = c.requires.room c.index_mut.result.now (c.index_mut.ensures.value ∙ (λ j. get_or (c.self.view_is j) c.args.index c.index_mut.result.now))

pub invariant_of-self : goal.invariant_of-self
invariant_of-self g c =
    finds_set c.self.inside.names c.self.inside.groups.items c.args.index c.index_mut.result.now c.rejoin.new.self (search rules) c.index_mut.ensures.value c.rejoin.ensures.name c.self.invariant

pub returns : goal.returns
returns g c =
    staying_at (and_then (call c.args.now c.args.request.member) (plainly (with_member c.args.request.member (rejoined c.args.now c.args.session c.args.request)))) c.args.ledger.now c.rejoin.new.ledger c.self.inside.groups.items c.args.self.now c.args.index
    c.index_mut.result.now c.rejoin.new.self c.self.view_is c.requires.within c.index_mut.ensures.value c.rejoin.ensures
