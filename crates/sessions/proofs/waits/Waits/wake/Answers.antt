use Rattle.std.proofs.Common.{rules, ◌≡◌, false, ◌≤◌, sym, ◌∙◌, ap}
use Rattle.std.specs.Option.{option_map}
use Rattle.sessions.specs.Waiting.{WaitState}
use Rattle.std.proofs.lemmas.Option.{same_Some}
use Rattle.sessions.proofs.Woken.{at_position, woken_sleeps_not, woken_others, woken_unnamed}
use Rattle.sessions.proofs.waits.Waits.wake.Goals as goal

pub returns-clause-wakes : goal.returns-clause-wakes
returns-clause-wakes g c =
    let behind : c.self.inside.woken ≤ c.in-Some.index = search rules in
    let at = at_position c.self.inside.by_number.entries c.args.number c.in-Some.index (sym c.get_full.ensures.index ∙ ap (option_map (λ p. p.0)) c.in-Some.is) in
    woken_sleeps_not c.self.inside.by_number.entries c.swap_indices.new.self.entries c.self.inside.woken c.in-Some.index c.args.number behind at c.swap_indices.ensures.entries c.swap_indices.ensures.unique

pub returns-clause-others : goal.returns-clause-others
returns-clause-others g c =
    let behind : c.self.inside.woken ≤ c.in-Some.index = search rules in
    let at = at_position c.self.inside.by_number.entries c.args.number c.in-Some.index (sym c.get_full.ensures.index ∙ ap (option_map (λ p. p.0)) c.in-Some.is) in
    woken_others c.self.inside.by_number.entries c.swap_indices.new.self.entries c.self.inside.woken c.in-Some.index c.args.number behind at c.swap_indices.ensures.entries c.swap_indices.ensures.unique c.args.self.now c.self.view_is c.swap_indices.ensures.reordered.2

pub invariant_of-self : goal.invariant_of-self
invariant_of-self g c =
    let behind : c.self.inside.woken ≤ c.in-Some.index = search rules in
    let at = at_position c.self.inside.by_number.entries c.args.number c.in-Some.index (sym c.get_full.ensures.index ∙ ap (option_map (λ p. p.0)) c.in-Some.is) in
    let unnamed : c.in-Some.wait.now.is_named ≡ false = search rules in (
      search rules,
      woken_unnamed c.self.inside.by_number.entries c.swap_indices.new.self.entries c.self.inside.woken c.in-Some.index c.args.number behind at c.swap_indices.ensures.entries c.swap_indices.ensures.unique c.self.invariant.1 c.swap_indices.ensures.reordered.2
          (λ wait found. sym (ap (λ (w : WaitState). w.is_named) (same_Some {A = WaitState} c.in-Some.wait.now wait (c.in-Some.ensures.value ∙ found))) ∙ unnamed),
    )
