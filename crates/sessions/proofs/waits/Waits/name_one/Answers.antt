use Rattle.std.proofs.Common.{◌≡◌, ◌+◌, sym, rules}
use Rattle.sessions.proofs.Woken.{named_others, named_unnamed, named_was_unnamed, named_within}
use Rattle.sessions.proofs.waits.Waits.name_one.Goals as goal

pub returns-clause-was_unnamed : goal.returns-clause-was_unnamed
returns-clause-was_unnamed g c =
    let is_last : c.self.inside.woken ≡ c.in_ok-last.last + 1 = search rules in
    named_was_unnamed c.self.inside.by_number.entries c.name.new.by_number.entries c.self.inside.woken c.in_ok-last.last c.in_ok-number.number.now c.in_ok-number.field-0-1.now is_last c.name.ensures.numbers c.name.ensures.unique (sym c.in_ok-number.ensures.entry) c.args.self.now c.self.view_is c.self.invariant.1 c.in_ok-number.ensures.value

pub invariant_of-self : goal.invariant_of-self
invariant_of-self g c =
    let is_last : c.self.inside.woken ≡ c.in_ok-last.last + 1 = search rules in (
      named_within c.self.inside.by_number.entries c.name.new.by_number.entries c.self.inside.woken c.in_ok-last.last c.in_ok-number.number.now c.in_ok-number.field-0-1.now is_last c.name.ensures.numbers c.name.ensures.unique (sym c.in_ok-number.ensures.entry),
      named_unnamed c.self.inside.by_number.entries c.name.new.by_number.entries c.self.inside.woken c.in_ok-last.last c.in_ok-number.number.now c.in_ok-number.field-0-1.now is_last c.name.ensures.numbers c.name.ensures.unique (sym c.in_ok-number.ensures.entry) c.self.invariant.1 c.name.ensures.waits,
    )

pub returns-clause-asleep : goal.returns-clause-asleep
returns-clause-asleep g c =
    let is_last : c.self.inside.woken ≡ c.in_ok-last.last + 1 = search rules in
    named_others c.self.inside.by_number.entries c.name.new.by_number.entries c.self.inside.woken c.in_ok-last.last c.in_ok-number.number.now c.in_ok-number.field-0-1.now is_last c.name.ensures.numbers c.name.ensures.unique (sym c.in_ok-number.ensures.entry) c.args.self.now c.self.view_is c.name.ensures.names c.name.ensures.waits
