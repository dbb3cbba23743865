use Rattle.std.proofs.Common.{◌≡◌, ◌≢◌, ℕ, ap, refl, subst, sym, ◌∙◌}
use Rattle.std.specs.Map.{lookup}
use Rattle.sessions.specs.Waiting.{WaitingState, WaitsState, asleep_at, is_same_key, wait_at}
use Rattle.sessions.specs.Asleep.{AllWaitOn}
use Rattle.sessions.proofs.Standing.{one_named, same_waits, slept_on, timed, was_named}
use Rattle.sessions.proofs.waiting.Waiting.next_woken.Goals as goal

pub loop-number-preserved : goal.loop-number-preserved
loop-number-preserved g c =
    let before = c.loop-number.invariant in
    let number = c.in-Some.number in
    let waits : (k : ℕ) → wait_at c.wake.new.self k ≡ wait_at c.pop_due.new.self.waits k = λ k. c.wake.ensures.waits k ∙ ap (λ (w : WaitingState). wait_at w.waits k) c.self.view_is in
    let others : (k : ℕ) → k ≢ number → asleep_at c.wake.new.self k ≡ asleep_at c.pop_due.new.self.waits k = λ k other. c.wake.ensures.others k other ∙ ap (λ (w : WaitingState). asleep_at w.waits k) c.self.view_is in (
      λ k. waits k ∙ ap (λ (w : WaitsState). wait_at w k) c.pop_due.ensures.waits ∙ before.0 k,
      λ k. slept_on k number c.args.self.now.waits c.loop-number.self.waits c.wake.new.self c.wake.ensures.wakes (λ j other. others j other ∙ ap (λ (w : WaitsState). asleep_at w j) c.pop_due.ensures.waits) (before.1 k),
      λ s now asked all. timed s now c.loop-number.self c.pop_due.new.self _ asked number c.pop_due.ensures.waits c.pop_due.ensures.stands c.in-Some.ensures.times
          (ap (λ (w : WaitingState). w.stands) c.self.view_is) (ap (λ (w : WaitingState). w.times) c.self.view_is) c.wake.ensures.wakes waits others (before.2 s now asked all),
    )

pub returns-clause-wait_on : goal.returns-clause-wait_on
returns-clause-wait_on g c = λ s now asked all.
    let before = c.loop-number.invariant.2 s now asked all in
    let popped = same_waits s now c.loop-number.self c.pop_due.new.self asked c.pop_due.ensures.waits (c.in_default.ensures.times (0, 0)) (λ key. ap (lookup (is_same_key key)) c.pop_due.ensures.stands) before in
    let inside = subst (λ (w : WaitingState). AllWaitOn s now w asked) (sym c.self-2.view_is) popped in
    one_named s now _ _ asked refl refl c.name_one.ensures.asleep c.name_one.result c.name_one.ensures.none_is_woken c.name_one.ensures.names c.name_one.ensures.waits inside

pub returns-clause-was_unnamed : goal.returns-clause-was_unnamed
returns-clause-was_unnamed g c =
    let same : (k : ℕ) → wait_at c.self-2.inside.waits k ≡ wait_at c.args.self.now.waits k = λ k.
    ap (λ (w : WaitingState). wait_at w.waits k) c.self-2.view_is ∙ ap (λ (w : WaitsState). wait_at w k) c.pop_due.ensures.waits ∙ c.loop-number.invariant.0 k in
    was_named c.self-2.inside.waits c.args.self.now.waits same c.name_one.result c.name_one.ensures.was_unnamed
