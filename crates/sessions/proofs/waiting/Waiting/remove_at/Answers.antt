use Rattle.std.proofs.Common.{◌≡◌, ◌≢◌, Option, Some, ap, sym, ◌∙◌, rules}
use Rattle.std.specs.Map.{lookup}
use Rattle.std.specs.Option.{is_some, option_and_then, option_copied_mut}
use Rattle.sessions.specs.Waiting.{StandState, WaitingState, is_same_key, share_in, stand_at}
use Rattle.sessions.proofs.Standing.{emptied, keeps_all, written}
use Rattle.sessions.proofs.waiting.Waiting.remove_at.Goals as goal

pub returns-in_default-clause-stands : goal.returns-in_default-clause-stands
returns-in_default-clause-stands g c =
    let same : c.get_mut.follows.lender-at-none ≡ c.self.inside.by_partition = search rules in
    keeps_all (λ k. k ≢ c.args.number) c.args.self.now _ (λ key. ap (λ m. lookup (is_same_key key) m.entries) same ∙ ap (λ (w : WaitingState). stand_at w key) c.self.view_is)

pub returns-in_default-clause-gone : goal.returns-in_default-clause-gone
returns-in_default-clause-gone g c =
    let same : c.get_mut.follows.lender-at-none ≡ c.self.inside.by_partition = search rules in
    ap (λ (o : Option StandState). option_and_then (λ stand. share_in stand c.args.number) o)
    (ap (λ m. lookup (is_same_key c.args.place) m.entries) same ∙ sym c.get_mut.ensures.value ∙ ap option_copied_mut c.in_default.is)

pub returns-then-remove-clause-stands : goal.returns-then-remove-clause-stands
returns-then-remove-clause-stands g c =
    let found = ap option_copied_mut c.in-Some.is in
    let at : stand_at c.args.self.now c.args.place ≡ Some c.in-Some.stand.now = ap (λ (w : WaitingState). stand_at w c.args.place) (sym c.self.view_is) ∙ sym c.get_mut.ensures.value ∙ found in
    let put = (c.get_mut.follows.holds c.remove.new.self).3 (ap is_some (sym c.get_mut.ensures.value ∙ found)) in
    let kept = λ (new : WaitingState) (is : new.stands ≡ c.swap_remove.new.self.entries).
    emptied c.args.self.now new c.args.place c.args.number c.in-Some.stand.now c.remove.new.self at c.remove.ensures.stays.0 c.remove.ensures.stays.1 c.remove.ensures.shares c.remove.ensures.gone
    (λ key other. ap (lookup (is_same_key key)) is ∙ c.swap_remove.ensures.updates.2 key other ∙ put.2 key other ∙ ap (λ (w : WaitingState). stand_at w key) c.self.view_is)
    (c.remove.ensures.none c.if-remove.true) (ap (lookup (is_same_key c.args.place)) is ∙ c.swap_remove.ensures.updates.1) in
    kept c.match-swap_remove.self (search rules)

pub returns-then-remove-clause-gone : goal.returns-then-remove-clause-gone
returns-then-remove-clause-gone g c =
    let kept = λ (new : WaitingState) (is : new.stands ≡ c.swap_remove.new.self.entries).
    ap (λ (o : Option StandState). option_and_then (λ stand. share_in stand c.args.number) o) (ap (lookup (is_same_key c.args.place)) is ∙ c.swap_remove.ensures.updates.1) in
    kept c.match-swap_remove.self (search rules)

pub returns-else-remove-clause-stands : goal.returns-else-remove-clause-stands
returns-else-remove-clause-stands g c =
    let found = ap option_copied_mut c.in-Some.is in
    let at : stand_at c.args.self.now c.args.place ≡ Some c.in-Some.stand.now = ap (λ (w : WaitingState). stand_at w c.args.place) (sym c.self.view_is) ∙ sym c.get_mut.ensures.value ∙ found in
    let put = (c.get_mut.follows.holds c.remove.new.self).3 (ap is_some (sym c.get_mut.ensures.value ∙ found)) in
    written c.args.self.now _ c.args.place c.args.number c.in-Some.stand.now c.remove.new.self at c.remove.ensures.stays.0 c.remove.ensures.stays.1 c.remove.ensures.shares c.remove.ensures.gone
    (λ key other. put.2 key other ∙ ap (λ (w : WaitingState). stand_at w key) c.self.view_is) put.1

pub returns-else-remove-clause-gone : goal.returns-else-remove-clause-gone
returns-else-remove-clause-gone g c =
    let put = (c.get_mut.follows.holds c.remove.new.self).3 (ap is_some (sym c.get_mut.ensures.value ∙ ap option_copied_mut c.in-Some.is)) in
    ap (λ (o : Option StandState). option_and_then (λ stand. share_in stand c.args.number) o) put.1 ∙ c.remove.ensures.gone
