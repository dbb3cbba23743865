-- A topic's partition by its number. `passed` is the number as it was passed on.
use Rattle.std.proofs.Common.{◌≡◌, ℕ, zero, suc, true, false, ℤ, pos, negsuc, List, [], ◌∷◌, length, None, Fits, FitsSigned, w32, w64, refl, sym, ap, ◌∙◌, true≢false, arith}
use Rattle.std.specs.Prelude.{map, slice_get, nat_abs, nat_lt, int_lt}
use Rattle.std.proofs.lemmas.Int.{ints}
use Rattle.std.proofs.lemmas.List.{length-map}
use Rattle.broker_state.specs.State.{partition_of}
use Rattle.broker_state.specs.Parts.{TopicParts, topic_contents}

past_end : {X : Type 0} (xs : List X) (n : ℕ) → nat_lt n (length xs) ≡ false → slice_get xs n ≡ None
past_end [] n e = refl
past_end (x ∷ xs) zero e = absurd (grind (arith, e))
past_end (x ∷ xs) (suc n) e = past_end xs n (grind (arith, e))

-- from 0 on, the number is an index
pub is_index : (number passed : ℤ) → passed ≡ number → int_lt passed (pos 0) ≡ false → number ≡ pos (nat_abs passed)
is_index number (pos n) same low = sym same
is_index number (negsuc n) same low = absurd (true≢false low)

pub index_fits : (number passed : ℤ) → FitsSigned w32 number → passed ≡ number → Fits w64 (nat_abs passed)
index_fits number passed fits same = omega (arith, ints, fits, same)

-- there is no partition of a number below 0, and none past the last
pub none_below : (t : TopicParts) (number passed : ℤ) → passed ≡ number → int_lt passed (pos 0) ≡ true → partition_of number (topic_contents t) ≡ None
none_below t number (pos n) same low = absurd (grind (arith, low))
none_below t number (negsuc n) same low = sym (ap (λ z. partition_of z (topic_contents t)) same)

pub none_past : (t : TopicParts) (number passed : ℤ) → passed ≡ number → int_lt passed (pos 0) ≡ false → nat_lt (nat_abs passed) (length t.partitions) ≡ false → partition_of number (topic_contents t) ≡ None
none_past t number passed same low over =
    ap (λ z. partition_of z (topic_contents t)) (is_index number passed same low)
    ∙ past_end (map (λ p. p.content) t.partitions) (nat_abs passed) (ap (nat_lt (nat_abs passed)) (length-map t.partitions (λ p. p.content)) ∙ over)
