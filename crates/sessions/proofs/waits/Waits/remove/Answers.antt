use Rattle.std.proofs.Common.{rules, ◌≡◌, true}
use Rattle.std.specs.Prelude.{nat_le}
use Rattle.sessions.proofs.Woken.{index_in, removed_others, removed_unnamed, removed_within}
use Rattle.sessions.proofs.waits.Waits.remove.Goals as goal

pub returns-clause-asleep : goal.returns-clause-asleep
returns-clause-asleep g c =
    let behind : nat_le c.self.inside.woken (index_in c.args.number c.self.inside.by_number.entries) ≡ true = search rules in
    removed_others c.self.inside.by_number.entries c.swap_remove.new.self.entries c.self.inside.woken c.args.number behind c.swap_remove.ensures.entries c.swap_remove.ensures.unique c.put_behind.new.self c.args.self.now c.self.view_is c.put_behind.ensures.asleep c.swap_remove.ensures.updates.2

pub invariant_of-self : goal.invariant_of-self
invariant_of-self g c =
    let behind : nat_le c.self.inside.woken (index_in c.args.number c.self.inside.by_number.entries) ≡ true = search rules in (
      removed_within c.self.inside.by_number.entries c.swap_remove.new.self.entries c.self.inside.woken c.args.number behind c.swap_remove.ensures.entries c.swap_remove.ensures.unique c.self.invariant.0,
      removed_unnamed c.self.inside.by_number.entries c.swap_remove.new.self.entries c.self.inside.woken c.args.number behind c.swap_remove.ensures.entries c.swap_remove.ensures.unique c.self.invariant.1 c.swap_remove.ensures.updates.1 c.swap_remove.ensures.updates.2,
    )
