use Rattle.std.proofs.Common.{◌≡◌, ◌≢◌, IfSome, Option, Some, false, ap, rules, subst, sym, ◌∙◌}
use Rattle.sessions.specs.Waiting.{StandsAtNone, WaitState, WaitingState, WaitsState, asleep_at, stand_at, wait_at}
use Rattle.sessions.specs.Asleep.{has_time}
use Rattle.sessions.proofs.Standing.{keeps_all, keeps_both, kept_due, left, none_waits, time_gone}
use Rattle.sessions.proofs.waiting.Waiting.leave.Goals as goal

pub returns-in-Some-clause-stands_no_more : goal.returns-in-Some-clause-stands_no_more
returns-in-Some-clause-stands_no_more g c =
    let places : c.deref.result.now ≡ c.wait.inside.places.items = search rules in
    let was = ap (λ (w : WaitingState). wait_at w.waits c.args.number) (sym c.self.view_is) ∙ sym c.remove.ensures.was ∙ c.in-Some.is in
    subst (λ (o : Option WaitState). IfSome o (λ wait. StandsAtNone c.args.number wait.places c.remove_from.new.self)) (sym was)
    (subst (λ keys. StandsAtNone c.args.number keys c.remove_from.new.self) (places ∙ ap (λ (w : WaitState). w.places) c.wait.view_is) c.remove_from.ensures.gone)

pub returns-in-Some-clause-time : goal.returns-in-Some-clause-time
returns-in-Some-clause-time g c =
    let was = ap (λ (w : WaitingState). wait_at w.waits c.args.number) (sym c.self.view_is) ∙ sym c.remove.ensures.was ∙ c.in-Some.is in
    subst (λ (o : Option WaitState). IfSome o (λ wait. has_time wait.due c.remove_from.new.self.times ≡ false)) (sym was)
    (subst (λ (w : WaitState). has_time w.due c.remove_from.new.self.times ≡ false) c.wait.view_is
    (time_gone c.wait.inside.due _ c.remove_from.new.self.times c.remove_from.ensures.times c.remove-in-Some.ensures.updates.1))

pub returns-in-Some-clause-wait_on : goal.returns-in-Some-clause-wait_on
returns-in-Some-clause-wait_on g c =
    let number = c.args.number in
    let keeps = keeps_both (λ k. k ≢ number) c.args.self.now _ c.remove_from.new.self (keeps_all (λ k. k ≢ number) c.args.self.now _ (λ key. ap (λ (w : WaitingState). stand_at w key) c.self.view_is)) c.remove_from.ensures.stands in
    let there : wait_at c.args.self.now.waits number ≡ Some c.in-Some.wait = ap (λ (w : WaitingState). wait_at w.waits number) (sym c.self.view_is) ∙ sym c.remove.ensures.was ∙ c.in-Some.is in
    λ s now asked. left s now c.args.self.now c.remove_from.new.self asked number keeps
    (ap (λ (w : WaitsState). wait_at w number) c.remove_from.ensures.waits ∙ c.remove.ensures.gone)
    (λ k other. ap (λ (w : WaitsState). wait_at w k) c.remove_from.ensures.waits ∙ c.remove.ensures.waits k other ∙ ap (λ (w : WaitingState). wait_at w.waits k) c.self.view_is)
    (λ k other. ap (λ (w : WaitsState). asleep_at w k) c.remove_from.ensures.waits ∙ c.remove.ensures.asleep k other ∙ ap (λ (w : WaitingState). asleep_at w.waits k) c.self.view_is)
    (returns-in-Some-clause-stands_no_more g c)
    (λ all due other had. kept_due number c.wait.inside.due due c.self.inside.by_time.keys c.remove_from.new.self.times
    (ap (λ (w : WaitState). w.due.1) c.wait.view_is ∙ all.own number c.in-Some.wait there) (c.remove_from.ensures.times ∙ c.remove-in-Some.ensures.keys) other
    (ap (λ (w : WaitingState). has_time due w.times) c.self.view_is ∙ had))

pub returns-in_default-clause-stands_no_more : goal.returns-in_default-clause-stands_no_more
returns-in_default-clause-stands_no_more g c =
    none_waits _ _ (ap (λ (w : WaitingState). wait_at w.waits c.args.number) (sym c.self.view_is) ∙ sym c.remove.ensures.was ∙ c.in_default.is)

pub returns-in_default-clause-time : goal.returns-in_default-clause-time
returns-in_default-clause-time g c =
    none_waits _ _ (ap (λ (w : WaitingState). wait_at w.waits c.args.number) (sym c.self.view_is) ∙ sym c.remove.ensures.was ∙ c.in_default.is)

pub returns-in_default-clause-wait_on : goal.returns-in_default-clause-wait_on
returns-in_default-clause-wait_on g c =
    let number = c.args.number in
    λ s now asked. left s now c.args.self.now _ asked number (keeps_all (λ k. k ≢ number) c.args.self.now _ (λ key. ap (λ (w : WaitingState). stand_at w key) c.self.view_is))
    c.remove.ensures.gone
    (λ k other. c.remove.ensures.waits k other ∙ ap (λ (w : WaitingState). wait_at w.waits k) c.self.view_is)
    (λ k other. c.remove.ensures.asleep k other ∙ ap (λ (w : WaitingState). asleep_at w.waits k) c.self.view_is)
    (returns-in_default-clause-stands_no_more g c)
    (λ all due other had. ap (λ (w : WaitingState). has_time due w.times) c.self.view_is ∙ had)
