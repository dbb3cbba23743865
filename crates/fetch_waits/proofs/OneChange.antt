-- What a partition holds where one gets another content.
use Rattle.std.proofs.Common.{◌≡◌, ◌⊎◌, inl, inr, ℕ, ℤ, Bool, true, false, ◌&&◌, List, Some, refl, sym, ap, ◌∙◌, true≢false, arith}
use Rattle.std.specs.Prelude.{is_some, bytes_eq}
use Rattle.std.specs.Ordering.{int_eq}
use Rattle.std.proofs.lemmas.Int.{ints}
use Rattle.std.proofs.lemmas.Slice.Eq.{bytes_eq-Decides}
use Rattle.content.specs.Content.{Content}
use Rattle.broker_state.specs.State.{State, is_known, partition_at, with_content}
use Rattle.broker_state.proofs.OneContent.{other_index, other_name, with_same, with_unknown}

module _ (s : State) (topic : List ℕ) (index : ℤ) (c : Content) (name : List ℕ) (p : ℤ) where
  pub other_one : (bytes_eq topic name && int_eq index p) ≡ false → partition_at (with_content s topic index c) name p ≡ partition_at s name p
  other_one apart = by (bytes_eq topic name) (int_eq index p) refl refl apart
    where
      by : (b d : Bool) → bytes_eq topic name ≡ b → int_eq index p ≡ d → (b && d) ≡ false → partition_at (with_content s topic index c) name p ≡ partition_at s name p
      by false d e f apart = other_name s.topics topic name p index c (λ same. true≢false (sym ((bytes_eq-Decides topic name).1 (sym same)) ∙ e))
      by true false e f apart = other_index s.topics topic name p index c (λ same. absurd (grind (arith, ints, same, f)))
      by true true e f apart = absurd (true≢false apart)

  -- The partition has what it had, or it is that one, and has the other content.
  pub record IsChanged : Type 0 where
    pub new : partition_at (with_content s topic index c) name p ≡ Some c
    pub old : partition_at s topic index ≡ partition_at s name p
    pub known : is_known s name p ≡ true

  pub same_or_changed : (partition_at (with_content s topic index c) name p ≡ partition_at s name p) ⊎ IsChanged
  same_or_changed = by (is_known s topic index) (bytes_eq topic name) (int_eq index p) refl refl refl
    where
      by : (k b d : Bool) → is_known s topic index ≡ k → bytes_eq topic name ≡ b → int_eq index p ≡ d → (partition_at (with_content s topic index c) name p ≡ partition_at s name p) ⊎ IsChanged
      by false b d known e f = inl (ap (λ (m : State). partition_at m name p) (with_unknown s topic index c known))
      by true false d known e f = inl (other_one (ap (λ (x : Bool). x && int_eq index p) e))
      by true true false known e f = inl (other_one ((λ i. e i && f i)))
      by true true true known e f =
          let same : topic ≡ name = (bytes_eq-Decides topic name).0 e in
          let number : index ≡ p = grind (arith, ints, f) in
          let old : partition_at s topic index ≡ partition_at s name p = λ i. partition_at s (same i) (number i) in
          inr (record {
            new = sym (λ i. partition_at (with_content s topic index c) (same i) (number i)) ∙ with_same s topic index c known;
            old = old;
            known = sym (ap is_some old) ∙ known;
          })

  pub same_known : is_known (with_content s topic index c) name p ≡ is_known s name p
  same_known = elim same_or_changed [ inl same ↦ ap is_some same | inr changed ↦ ap is_some changed.new ∙ sym changed.known ]
