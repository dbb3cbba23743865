-- Worked rows: a course of a key whose deletion goes in time, and one in which it goes by its arrival, so that a reader never
-- learns of it.
use Rattle.std.proofs.Common.{◌≡◌, ℕ, ◌≤◌, true, false, List, [], ◌∷◌, refl, ap, subst, inl, inr, arith}
use Rattle.std.specs.Prelude.{ℤ, pos, ◌<ℤ◌, ◌≤ℤ◌}
use Rattle.std.specs.List.{AllByRecursion}
use Rattle.std.proofs.lemmas.Int.{ints}
use Rattle.cleaning_policy.specs.Readers.{KeyRecord, Act, time_of, IsAmong, there_behind, IsCourse, LearnsInTime}
use Rattle.cleaning_policy.specs.Readers.Act.{Appended, Cleaned, Shown}
use Rattle.cleaning_policy.proofs.Learning.{kind_of, record_of}

times_of : (n : ℕ) (acts : List Act) → AllByRecursion (λ b. time_of b ≤ n) acts → (b : Act) → IsAmong b acts → time_of b ≤ n
times_of n [] a b i = absurd i
times_of n (x ∷ xs) a b (inl is) = subst (λ (y : Act). time_of y ≤ n) is a.0
times_of n (x ∷ xs) a b (inr j) = times_of n xs a.1 b j

abbrev value : KeyRecord
value = record { offset = pos 0; is_deletion = false }

abbrev deletion : KeyRecord
deletion = record { offset = pos 1; is_deletion = true }

abbrev first_acts : List Act
first_acts = Appended 1 value ∷ []

abbrev shown_acts : List Act
shown_acts = Shown 2 (pos 0) ∷ first_acts

abbrev begun : List Act
begun = Appended 3 deletion ∷ shown_acts

other_kind : (a e : Act) → (kind_of a ≡ kind_of e → ⊥) → a ≡ e → ⊥
other_kind a e differ is = differ (ap kind_of is)

first_is : IsCourse 10 first_acts
first_is = ((omega (arith, ints), (λ u y i. absurd i), (λ u far took i. absurd i)), (λ b i. absurd i), tt)

shown_is : IsCourse 10 shown_acts
shown_is = ((value, refl, inl refl), times_of 2 first_acts (omega arith, tt), first_is)

low : (u : ℕ) (y : KeyRecord) → IsAmong (Appended u y) shown_acts → y.offset <ℤ pos 1
low u y (inl is) = absurd (other_kind (Shown 2 (pos 0)) (Appended u y) (λ e. absurd (omega (arith, e))) is)
low u y (inr (inl is)) =
    let same : pos 0 ≡ y.offset = ap (λ (a : Act). (record_of value a).offset) is in
    omega (arith, ints, same)
low u y (inr (inr i)) = absurd i

none_cleaned : (u : ℕ) (far took : ℤ) → IsAmong (Cleaned u far took) shown_acts → far ≤ℤ pos 1
none_cleaned u far took (inl is) = absurd (other_kind (Shown 2 (pos 0)) (Cleaned u far took) (λ e. absurd (omega (arith, e))) is)
none_cleaned u far took (inr (inl is)) = absurd (other_kind (Appended 1 value) (Cleaned u far took) (λ e. absurd (omega (arith, e))) is)
none_cleaned u far took (inr (inr i)) = absurd i

begun_is : IsCourse 10 begun
begun_is = ((omega (arith, ints), low, none_cleaned), times_of 3 shown_acts (omega arith, (omega arith, tt)), shown_is)

-- the value goes first, and ten milliseconds behind that its deletion
abbrev in_time : List Act
in_time = Cleaned 15 (pos 2) (pos 2) ∷ (Cleaned 5 (pos 2) (pos 0) ∷ begun)

in_time_is : IsCourse 10 in_time
in_time_is = (
  inr (5, pos 2, pos 0, inl refl, omega (arith, ints), omega arith),
  times_of 15 (Cleaned 5 (pos 2) (pos 0) ∷ begun) (omega arith, (omega arith, (omega arith, (omega arith, tt)))),
  (inl (omega (arith, ints)), times_of 5 begun (omega arith, (omega arith, (omega arith, tt))), begun_is),
)

in_time_leaves : (there_behind (Cleaned 5 (pos 2) (pos 0) ∷ begun) ≡ deletion ∷ []) × (there_behind in_time ≡ [])
in_time_leaves = (refl, refl)

-- by its arrival the deletion goes together with the value, which a reader was shown just before
abbrev by_arrival : List Act
by_arrival = Cleaned 15 (pos 2) (pos 2) ∷ (Shown 14 (pos 0) ∷ begun)

by_arrival_fails : LearnsInTime 10 16 by_arrival → ⊥
by_arrival_fails learns =
    let found = learns 14 3 (pos 0) deletion (inr (inl refl)) (inr (inr (inl refl))) (omega (arith, ints)) (omega arith) in
    absurd found.1
