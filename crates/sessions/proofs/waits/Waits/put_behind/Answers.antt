use Rattle.std.proofs.Common.{rules, ◌<◌, ◌≤◌, length, sym, ◌∙◌}
use Rattle.sessions.proofs.Woken.{at_position, put_is_behind, put_others, put_unnamed}
use Rattle.sessions.proofs.waits.Waits.put_behind.Goals as goal

pub returns-then-index-self-clause-behind : goal.returns-then-index-self-clause-behind
returns-then-index-self-clause-behind g c =
    let front : c.in-Some.index < c.self.inside.woken = search rules in
    let within : c.self.inside.woken ≤ length c.self.inside.by_number.entries = c.self.invariant.0 in
    let at = at_position c.self.inside.by_number.entries c.args.number c.in-Some.index (sym c.get_index_of.ensures.index ∙ c.in-Some.is) in
    put_is_behind c.self.inside.by_number.entries c.swap_indices.new.self.entries c.self.inside.woken c.in-Some.index c.args.number front within at c.swap_indices.ensures.entries c.swap_indices.ensures.unique

pub returns-then-index-self-clause-asleep : goal.returns-then-index-self-clause-asleep
returns-then-index-self-clause-asleep g c =
    let front : c.in-Some.index < c.self.inside.woken = search rules in
    let within : c.self.inside.woken ≤ length c.self.inside.by_number.entries = c.self.invariant.0 in
    let at = at_position c.self.inside.by_number.entries c.args.number c.in-Some.index (sym c.get_index_of.ensures.index ∙ c.in-Some.is) in
    put_others c.self.inside.by_number.entries c.swap_indices.new.self.entries c.self.inside.woken c.in-Some.index c.args.number front within at c.swap_indices.ensures.entries c.swap_indices.ensures.unique c.args.self.now c.self.view_is c.swap_indices.ensures.reordered.2

pub invariant_of-self : goal.invariant_of-self
invariant_of-self g c =
    let front : c.in-Some.index < c.self.inside.woken = search rules in
    let within : c.self.inside.woken ≤ length c.self.inside.by_number.entries = c.self.invariant.0 in
    let at = at_position c.self.inside.by_number.entries c.args.number c.in-Some.index (sym c.get_index_of.ensures.index ∙ c.in-Some.is) in (
      search rules,
      put_unnamed c.self.inside.by_number.entries c.swap_indices.new.self.entries c.self.inside.woken c.in-Some.index c.args.number front within at c.swap_indices.ensures.entries c.swap_indices.ensures.unique c.self.invariant.1 c.swap_indices.ensures.reordered.2,
    )
