-- Logs that grow at their ends.
use Rattle.std.proofs.Common.{◌≡◌, ◌≢◌, ℕ, ℤ, Bool, true, false, cond, ◌&&◌, List, [], ◌∷◌, ◌++◌, append-nil, append_assoc, refl, sym, ap, ◌∙◌, arith}
use Rattle.std.specs.Prelude.{bytes_eq}
use Rattle.std.specs.Ordering.{int_eq}
use Rattle.std.proofs.lemmas.Int.{ints}
use Rattle.std.proofs.lemmas.Slice.Eq.{bytes_eq-Decides}
use Rattle.batch_codec.specs.Values.{BatchValue}
use Rattle.answering.proofs.Checks.{not_true}
use Rattle.broker_state.specs.State.{State}
use Rattle.cleaning_laws.specs.Logs.{Logs, Grows}
use Rattle.cleaning_laws.specs.Alike.{AreAlike, StayAlike}
use Rattle.cleaning_laws.proofs.Stated.{same_int}

-- the logs with a batch more at the end of one of them
abbrev pub grown_logs : Logs → List ℕ → ℤ → BatchValue → Logs
grown_logs logs name p b n q = cond (bytes_eq n name && int_eq q p) (logs n q ++ b ∷ []) (logs n q)

pub same_logs : (logs : Logs) → Grows logs logs
same_logs logs = λ n q. ([], sym (append-nil (logs n q)))

pub grow_twice : (logs longer longest : Logs) → Grows logs longer → Grows longer longest → Grows logs longest
grow_twice logs longer longest first second = λ n q.
    let one = first n q in
    let two = second n q in
    (one.0 ++ two.0, two.1 ∙ ap (λ (l : List BatchValue). l ++ two.0) one.1 ∙ append_assoc (logs n q) one.0 two.0)

pub stay : (logs : Logs) (s z : State) → AreAlike logs s z → StayAlike logs s z
stay logs s z alike = record { longer = logs; grows = same_logs logs; alike = alike }

-- a step of states that stayed alike so far
pub stay_on : (logs : Logs) (s z m n : State) (so_far : StayAlike logs s z) → StayAlike so_far.longer m n → StayAlike logs m n
stay_on logs s z m n so_far next = record {
  longer = next.longer;
  grows = grow_twice logs so_far.longer next.longer so_far.grows next.grows;
  alike = next.alike;
}

-- ---- one batch more in one log

same_bytes : (x : List ℕ) → bytes_eq x x ≡ true
same_bytes x = (bytes_eq-Decides x x).1 refl

equal_int : (x : ℤ) → int_eq x x ≡ true
equal_int x = grind (arith, ints)

module _ (logs : Logs) (name : List ℕ) (p : ℤ) (b : BatchValue) where
  abbrev if_here : List ℕ → ℤ → Bool → Bool → List BatchValue
  if_here n q x y = cond (x && y) (logs n q ++ b ∷ []) (logs n q)

  pub grown_here : grown_logs logs name p b name p ≡ logs name p ++ b ∷ []
  grown_here = λ i. if_here name p (same_bytes name i) (equal_int p i)

  pub grown_other_name : (n : List ℕ) (q : ℤ) → n ≢ name → grown_logs logs name p b n q ≡ logs n q
  grown_other_name n q other =
      ap (λ (x : Bool). if_here n q x (int_eq q p)) (not_true (bytes_eq n name) (λ e. other ((bytes_eq-Decides n name).0 e)))

  and_false : (x y : Bool) → y ≡ false → (x && y) ≡ false
  and_false x y e = grind (arith, e)

  pub grown_other_index : (n : List ℕ) (q : ℤ) → q ≢ p → grown_logs logs name p b n q ≡ logs n q
  grown_other_index n q other =
      ap (λ (x : Bool). cond x (logs n q ++ b ∷ []) (logs n q)) (and_false (bytes_eq n name) (int_eq q p) (not_true (int_eq q p) (λ e. other (same_int q p e))))

  pub grown_grows : Grows logs (grown_logs logs name p b)
  grown_grows n q = by (bytes_eq n name && int_eq q p)
    where
      by : (x : Bool) → (more : List BatchValue) × (cond x (logs n q ++ b ∷ []) (logs n q) ≡ logs n q ++ more)
      by true = (b ∷ [], refl)
      by false = ([], sym (append-nil (logs n q)))
