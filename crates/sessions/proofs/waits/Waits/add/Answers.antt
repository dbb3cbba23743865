use Rattle.std.proofs.Common.{rules, ◌≤◌, length}
use Rattle.sessions.proofs.Woken.{added_is, added_sleeps, added_others, added_unnamed}
use Rattle.sessions.proofs.waits.Waits.add.Goals as goal

pub returns-clause-sleeps : goal.returns-clause-sleeps
returns-clause-sleeps g c =
    let within : c.self.inside.woken ≤ length c.self.inside.by_number.entries = c.self.invariant.0 in
    let added = added_is c.self.inside.by_number c.insert.new.self.entries c.args.number c.self.inside.woken c.args.wait c.args.self.now c.self.view_is c.requires c.in_ok-insert.ensures.entries in
    added_sleeps c.self.inside.by_number.entries c.insert.new.self.entries c.self.inside.woken c.args.number c.args.wait within added c.insert.ensures.unique c.in_ok-insert.ensures.updates.1

pub returns-clause-asleep : goal.returns-clause-asleep
returns-clause-asleep g c =
    let within : c.self.inside.woken ≤ length c.self.inside.by_number.entries = c.self.invariant.0 in
    let added = added_is c.self.inside.by_number c.insert.new.self.entries c.args.number c.self.inside.woken c.args.wait c.args.self.now c.self.view_is c.requires c.in_ok-insert.ensures.entries in
    added_others c.self.inside.by_number.entries c.insert.new.self.entries c.self.inside.woken c.args.number c.args.wait within added c.insert.ensures.unique c.args.self.now c.self.view_is c.in_ok-insert.ensures.updates.2

pub invariant_of-self-2 : goal.invariant_of-self-2
invariant_of-self-2 g c =
    let within : c.self.inside.woken ≤ length c.self.inside.by_number.entries = c.self.invariant.0 in
    let added = added_is c.self.inside.by_number c.insert.new.self.entries c.args.number c.self.inside.woken c.args.wait c.args.self.now c.self.view_is c.requires c.in_ok-insert.ensures.entries in (
      search rules,
      added_unnamed c.self.inside.by_number.entries c.insert.new.self.entries c.self.inside.woken c.args.number c.args.wait within added c.insert.ensures.unique c.self.invariant.1 c.in_ok-insert.ensures.updates.2,
    )
