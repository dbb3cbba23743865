-- Few samples are kept of a partition.
use Rattle.std.proofs.Common.{◌≡◌, ℕ, zero, suc, ◌-◌, ◌/◌, ◌≤◌, Bool, true, false, cond, ◌||◌, nat_le, nat_lt, List, [], ◌∷◌, ◌++◌, length, refl, arith}
use Rattle.std.specs.Prelude.{Option, Some, None}
use Rattle.std.specs.List.{AllByRecursion}
use Rattle.cleaning_policy.specs.declared.values.Extent.{Extent}
use Rattle.cleaning_policy.specs.declared.values.Pass.{Pass}
use Rattle.cleaning_policy.specs.declared.values.Sample.{Sample}
use Rattle.cleaning_policy.specs.declared.values.Settings.{Settings}
use Rattle.cleaning_policy.specs.declared.values.TheConstants.{MOST_SAMPLES}
use Rattle.cleaning_policy.specs.Samples.{has_passed, asked_samples, is_known, is_crowded, in_place_of_newest, with_sample}
use Rattle.cleaning_policy.specs.Partitions.{Part, new_part, told_part, sample_of, begun_part, cleaned_part, given_up_part, part_with_marks}
use Rattle.cleaning_policy.specs.Policies.{Known, changed_at, cleaned, given_up, next_pass, behind_pass}
use Rattle.cleaning_policy.specs.Histories.{Call, behind}
use Rattle.cleaning_policy.specs.Histories.Call.{Add, Tell, PutBack, Next, Clean, GiveUp}
use Rattle.cleaning_policy.proofs.Options.{by_test}

few_asked : (lag now : ℕ) (xs : List Sample) → length (asked_samples lag now xs) ≤ length xs
unfolding asked_samples
few_asked lag now [] = omega arith
few_asked lag now (s ∷ earlier) =
    let rest = few_asked lag now earlier in
    let shorter : length (cond (has_passed s.time lag now) [] (asked_samples lag now earlier)) ≤ length earlier =
    by_test (λ (ys : List Sample). length ys ≤ length earlier) (has_passed s.time lag now) [] (asked_samples lag now earlier) (omega arith) rest in
    omega (arith, shorter)

in_place : (x : Sample) (xs : List Sample) → length xs ≤ MOST_SAMPLES → length (in_place_of_newest x xs) ≤ MOST_SAMPLES
in_place x [] few = omega arith
in_place x (s ∷ earlier) few = omega (arith, few)

room : (lag : ℕ) (x : Sample) (xs : List Sample) → is_crowded lag xs ≡ false → length (x ∷ xs) ≤ MOST_SAMPLES
room lag x [] e = omega arith
room lag x (s ∷ []) e = omega arith
room lag x (s ∷ t ∷ earlier) e = by (nat_lt (s.time - t.time) (lag / 8)) e where
  by : (b : Bool) → (b || nat_le MOST_SAMPLES (length (s ∷ t ∷ earlier))) ≡ false → length (x ∷ s ∷ t ∷ earlier) ≤ MOST_SAMPLES
  by true f = absurd (grind (arith, f))
  by false f = grind (arith, f)

few_with : (lag : ℕ) (x : Sample) (xs : List Sample) → length xs ≤ MOST_SAMPLES → length (with_sample lag x xs) ≤ MOST_SAMPLES
few_with lag x xs few =
    by_test (λ (ys : List Sample). length ys ≤ MOST_SAMPLES) (is_known x xs) xs (cond (is_crowded lag xs) (in_place_of_newest x xs) (x ∷ xs)) few
    (by (is_crowded lag xs) refl) where
      by : (b : Bool) → is_crowded lag xs ≡ b → length (cond b (in_place_of_newest x xs) (x ∷ xs)) ≤ MOST_SAMPLES
      by true e = in_place x xs few
      by false e = room lag x xs e

-- ---- of each partition

abbrev IsFew : Part → Type 0
IsFew p = length p.samples ≤ MOST_SAMPLES

few_told : (lag now : ℕ) (x : Extent) (p : Part) → IsFew p → IsFew (told_part lag now x p)
few_told lag now x p few =
    let more = few_with lag (sample_of now p x) p.samples few in
    let asked = few_asked lag now (with_sample lag (sample_of now p x) p.samples) in
    omega (arith, more, asked)

few_changed : (f : Part → Part) → ((p : Part) → IsFew p → IsFew (f p)) → (k : ℕ) (ps : List Part) → AllByRecursion IsFew ps → AllByRecursion IsFew (changed_at k f ps)
few_changed f each zero [] a = tt
few_changed f each (suc k) [] a = tt
few_changed f each zero (p ∷ ps) a = (each p a.0, a.1)
few_changed f each (suc k) (p ∷ ps) a = (a.0, few_changed f each k ps a.1)

few_added : (now : ℕ) (ps : List Part) → AllByRecursion IsFew ps → AllByRecursion IsFew (ps ++ new_part now ∷ [])
few_added now [] a = (omega arith, tt)
few_added now (p ∷ ps) a = (a.0, few_added now ps a.1)

few_begun : (now : ℕ) (v : Known) (r : Option Pass) → AllByRecursion IsFew v.parts → AllByRecursion IsFew (behind_pass now v r).parts
few_begun now v None a = a
few_begun now v (Some q) a = few_changed (begun_part now) (λ p few. few) q.frame.partition v.parts a

few_cleaned : (now bytes : ℕ) (v : Known) (r : Option Pass) → AllByRecursion IsFew v.parts → AllByRecursion IsFew (cleaned now bytes v r).parts
few_cleaned now bytes v None a = a
few_cleaned now bytes v (Some q) a = few_changed (cleaned_part v.settings.keep_deletes now q bytes) (λ p few. few) q.frame.partition v.parts a

few_given_up : (now : ℕ) (v : Known) (r : Option Pass) → AllByRecursion IsFew v.parts → AllByRecursion IsFew (given_up now v r).parts
few_given_up now v None a = a
few_given_up now v (Some q) a = few_changed (given_up_part now) (λ p few. few) q.frame.partition v.parts a

pub are_few : (o : Settings) (calls : List Call) → AllByRecursion IsFew (behind o calls).parts
are_few o [] = tt
are_few o (Add now ∷ before) = few_added now (behind o before).parts (are_few o before)
are_few o (Tell now i x ∷ before) = few_changed (told_part (behind o before).settings.lag now x) (few_told (behind o before).settings.lag now x) i (behind o before).parts (are_few o before)
are_few o (PutBack now i m ∷ before) = few_changed (part_with_marks now m) (λ p few. few) i (behind o before).parts (are_few o before)
are_few o (Next now ∷ before) = few_begun now (behind o before) (next_pass now (behind o before) (behind o before).pass) (are_few o before)
are_few o (Clean now bytes ∷ before) = few_cleaned now bytes (behind o before) (behind o before).pass (are_few o before)
are_few o (GiveUp now ∷ before) = few_given_up now (behind o before) (behind o before).pass (are_few o before)
