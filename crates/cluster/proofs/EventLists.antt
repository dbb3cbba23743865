-- One event more at the end of a list.
use Rattle.std.proofs.Common.{◌≡◌, ℕ, ◌+◌, ◌<◌, ◌≤◌, Result, List, [], ◌∷◌, ◌++◌, length, get_or, take, refl, sym, ap, subst, ◌∙◌}
use Rattle.std.proofs.lemmas.List.{take_all, take_more}
use Rattle.cluster.specs.declared.event.Event.{Event}
use Rattle.cluster.specs.declared.event.Outcome.{Outcome}
use Rattle.cluster.specs.declared.event.EventError.{EventError}
use Rattle.cluster.specs.Worlds.{World}
use Rattle.cluster.specs.Events.{Steps, Runs}

pub none_run : (A : Type 0) (w : World) (rs : List (Result Outcome EventError)) → rs ≡ [] → Runs {A = A} w [] rs w
none_run A w rs none = subst (λ (x : List (Result Outcome EventError)). Runs {A = A} w [] x w) (sym none) refl

module _ {A : Type 0} where
  longer : (w m after : World) (es : List (Event A)) (rs : List (Result Outcome EventError)) (e : Event A) (r : Result Outcome EventError) → Runs w es rs m → Steps m e after r → Runs w (es ++ e ∷ []) (rs ++ r ∷ []) after
  longer w m after [] [] e r runs does = (after, subst (λ (x : World). Steps x e after r) runs does, refl)
  longer w m after (x ∷ es) (y ∷ rs) e r runs does = (runs.0, runs.1, longer runs.0 m after es rs e r runs.2 does)
  longer w m after [] (y ∷ rs) e r runs does = absurd runs
  longer w m after (x ∷ es) [] e r runs does = absurd runs

  pub one_more : (w m after : World) (es : List (Event A)) (i : ℕ) (rs rs' : List (Result Outcome EventError)) (e d : Event A) (r : Result Outcome EventError) → i < length es → e ≡ get_or es i d
      → Runs w (take i es) rs m → Steps m e after r → rs' ≡ rs ++ r ∷ [] → Runs w (take (i + 1) es) rs' after
  one_more w m after es i rs rs' e d r lt is runs does grows =
      subst (λ (x : List (Event A)). Runs w x rs' after) (ap (λ (x : Event A). take i es ++ x ∷ []) is ∙ sym (take_more es i d lt))
      (subst (λ (x : List (Result Outcome EventError)). Runs w (take i es ++ e ∷ []) x after) (sym grows) (longer w m after (take i es) rs e r runs does))

  pub all_run : (w after : World) (es : List (Event A)) (i : ℕ) (rs : List (Result Outcome EventError)) → length es ≤ i → Runs w (take i es) rs after → Runs w es rs after
  all_run w after es i rs over runs = subst (λ (x : List (Event A)). Runs w x rs after) (take_all i es over) runs
