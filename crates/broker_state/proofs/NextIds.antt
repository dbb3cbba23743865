-- A producer id is given out where the number after it is an int64, and then that is the next one.
use Rattle.std.proofs.Common.{◌≡◌, ◌≢◌, ℤ, pos, ◌+ℤ◌, Bool, true, false, List, refl, sym, ap, subst, ◌∙◌, arith}
use Rattle.std.specs.Prelude.{FitsSigned}
use Rattle.std.specs.Ordering.{int_eq}
use Rattle.std.specs.Int.{w64}
use Rattle.std.proofs.lemmas.Int.{ints}
use Rattle.broker_state.specs.State.{ConfigValue, Topic, State}
use Rattle.broker_state.specs.Producers.{greatest_int64, with_id_given}

not_last : (z : ℤ) → FitsSigned w64 (z +ℤ pos 1) → z ≢ greatest_int64
not_last z fits e = let within = fits.sfits in absurd (grind (arith, ints, within, e))

last_of : (z : ℤ) → FitsSigned w64 z → (FitsSigned w64 (z +ℤ pos 1) → ⊥) → z ≡ greatest_int64
last_of z fits no_more = by (int_eq z greatest_int64) refl
  where
    by : (b : Bool) → int_eq z greatest_int64 ≡ b → z ≡ greatest_int64
    by true e = grind (arith, ints, e)
    by false e = let within = fits.sfits in absurd (no_more (record { sfits = grind (arith, ints, within, e) }))

-- the numbers are passed on by value
pub id_given : (g : ConfigValue) (ts : List Topic) (id sent next after : ℤ) (s : State) → record { config = g; topics = ts; next_producer = id } ≡ s → sent ≡ id → FitsSigned w64 (sent +ℤ pos 1) → next ≡ sent +ℤ pos 1
    → after ≡ next → (s.next_producer ≢ greatest_int64) × (sent ≡ s.next_producer) × (record { config = g; topics = ts; next_producer = after } ≡ with_id_given s)
id_given g ts id sent next after s view same fits is_next is_after =
    let here : sent ≡ s.next_producer = same ∙ ap (λ (t : State). t.next_producer) view in
    let number : after ≡ id +ℤ pos 1 = is_after ∙ is_next ∙ ap (λ (z : ℤ). z +ℤ pos 1) same in (
      λ e. not_last sent fits (here ∙ e),
      here,
      (λ i. record { config = g; topics = ts; next_producer = number i }) ∙ ap with_id_given view,
    )

pub none_left : (g : ConfigValue) (ts : List Topic) (id sent : ℤ) (s : State) → record { config = g; topics = ts; next_producer = id } ≡ s → FitsSigned w64 id → sent ≡ id → (FitsSigned w64 (sent +ℤ pos 1) → ⊥)
    → (s.next_producer ≡ greatest_int64) × (s ≡ s)
none_left g ts id sent s view fits same no_more =
    (sym (ap (λ (t : State). t.next_producer) view) ∙ last_of id fits (λ more. no_more (subst (λ (z : ℤ). FitsSigned w64 (z +ℤ pos 1)) (sym same) more)), refl)
