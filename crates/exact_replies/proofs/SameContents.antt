-- Two brokers that hold the same go on to hold the same where the same content comes into one of their partitions.
use Rattle.std.proofs.Common.{◌≡◌, ℕ, ℤ, pos, Bool, true, false, List, Some, refl, sym, ap, subst, ◌∙◌, arith}
use Rattle.std.specs.Prelude.{◌≢◌, ◌+ℤ◌, is_some, bytes_eq}
use Rattle.std.specs.Option.{unwrap_or}
use Rattle.std.specs.Ordering.{int_eq}
use Rattle.std.proofs.lemmas.Bool.Decides.{Decides-int_eq}
use Rattle.std.proofs.lemmas.Slice.Eq.{bytes_eq-Decides}
use Rattle.content.specs.Content.{Content, empty}
use Rattle.broker_state.specs.State.{State, partition_at, is_known, content_at, with_content}
use Rattle.broker_state.specs.Producers.{with_id_given}
use Rattle.broker_state.proofs.OneContent.{with_same, with_unknown, other_index, other_name}
use Rattle.exact_replies.specs.SameHeld.{HoldTheSame}

not_true : (b : Bool) → ¬ (b ≡ true) → b ≡ false
not_true true no_one = absurd (no_one refl)
not_true false no_one = refl

module _ (s t : State) (hold : HoldTheSame s t) (name : List ℕ) (p : ℤ) where
  pub known_same : is_known s name p ≡ is_known t name p
  known_same = λ i. is_some (hold.contents name p i)

  pub content_same : content_at s name p ≡ content_at t name p
  content_same = λ i. unwrap_or (hold.contents name p i) empty

module _ (s t : State) (hold : HoldTheSame s t) (name : List ℕ) (p : ℤ) (c d : Content) (same : c ≡ d) where
  -- one of their partitions, by its name, its number and whether it is the one that changes
  by_name : (m : List ℕ) (r : ℤ) → r ≡ p → is_known s name p ≡ true → (b : Bool) → bytes_eq m name ≡ b → partition_at (with_content s name p c) m r ≡ partition_at (with_content t name p d) m r
  by_name m r e known true is =
      let here : m ≡ name = (bytes_eq-Decides m name).0 is in
      subst (λ (n : List ℕ). partition_at (with_content s name p c) n r ≡ partition_at (with_content t name p d) n r) (sym here)
      (subst (λ (q : ℤ). partition_at (with_content s name p c) name q ≡ partition_at (with_content t name p d) name q) (sym e)
      (with_same s name p c known ∙ ap Some same ∙ sym (with_same t name p d (sym (known_same s t hold name p) ∙ known))))
  by_name m r e known false is =
      let other : m ≢ name = λ same_name. absurd (grind (arith, is, (bytes_eq-Decides m name).1 same_name)) in
      other_name s.topics name m r p c other ∙ hold.contents m r ∙ sym (other_name t.topics name m r p d other)

  by_number : (m : List ℕ) (r : ℤ) → is_known s name p ≡ true → (b : Bool) → int_eq r p ≡ b → partition_at (with_content s name p c) m r ≡ partition_at (with_content t name p d) m r
  by_number m r known true is = by_name m r ((Decides-int_eq r p).0 is) known (bytes_eq m name) refl
  by_number m r known false is =
      let other : r ≢ p = λ same_number. absurd (grind (arith, is, (Decides-int_eq r p).1 same_number)) in
      other_index s.topics name m r p c other ∙ hold.contents m r ∙ sym (other_index t.topics name m r p d other)

  at_each : (m : List ℕ) (r : ℤ) (b : Bool) → is_known s name p ≡ b → partition_at (with_content s name p c) m r ≡ partition_at (with_content t name p d) m r
  at_each m r true known = by_number m r known (int_eq r p) refl
  at_each m r false known =
      ap (λ (x : State). partition_at x m r) (with_unknown s name p c known)
      ∙ hold.contents m r
      ∙ sym (ap (λ (x : State). partition_at x m r) (with_unknown t name p d (sym (known_same s t hold name p) ∙ known)))

  pub with_both : HoldTheSame (with_content s name p c) (with_content t name p d)
  with_both = record {
    role = hold.role;
    next_producer = hold.next_producer;
    contents = λ m r. at_each m r (is_known s name p) refl;
  }

pub given_both : (s t : State) → HoldTheSame s t → HoldTheSame (with_id_given s) (with_id_given t)
given_both s t hold = record {
  role = hold.role;
  next_producer = λ i. hold.next_producer i +ℤ pos 1;
  contents = hold.contents;
}
