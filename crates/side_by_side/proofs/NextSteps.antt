-- Whether something comes next of batches and entries, and how much of them is passed.
use Rattle.std.proofs.Common.{◌≡◌, ℕ, ◌+◌, ◌≤◌, ◌<◌, Bool, true, false, not, [], ◌∷◌, length, drop, Some, refl, sym, ap, arith}
use Rattle.std.specs.Prelude.{int_lt, is_some, ◌||◌}
use Rattle.std.proofs.lemmas.List.{length-drop}
use Rattle.batch_codec.specs.Values.{BatchValue}
use Rattle.batch_codec.specs.Offsets.{first_offset}
use Rattle.content_laws.proofs.Batches.{Batches}
use Rattle.deltas.specs.Entries.{Entry, entry_base}
use Rattle.side_by_side.specs.Steps.{Step, first_batch, first_entry, next_by, next_of, is_done, taken_kept, taken_told}
use Rattle.side_by_side.specs.Steps.Step.{Done, Kept, Told, Both}
use Rattle.side_by_side.proofs.StepWalk.{Entries, chosen}

-- ---- whether anything is left

not_done : (x : BatchValue) (e : Entry) (s t : Bool) → is_done (chosen x e s t) ≡ false
not_done x e true t = refl
not_done x e false true = refl
not_done x e false false = refl

pub both_left : (x : BatchValue) (e : Entry) → is_done (next_by (Some x) (Some e)) ≡ false
both_left x e = not_done x e (int_lt (first_offset x) (entry_base e)) (int_lt (entry_base e) (first_offset x))

pub some_left : (xs : Batches) (es : Entries) → (is_some (first_batch xs) || is_some (first_entry es)) ≡ not (is_done (next_of xs es))
some_left [] [] = refl
some_left [] (e ∷ es) = refl
some_left (x ∷ xs) [] = refl
some_left (x ∷ xs) (e ∷ es) = sym (ap not (both_left x e))

-- ---- each step takes a batch or an entry

pub kept_few : (xs : Batches) (es : Entries) → taken_kept (next_of xs es) ≤ length xs
kept_few [] [] = omega arith
kept_few [] (y ∷ es) = omega arith
kept_few (x ∷ xs) [] = omega arith
kept_few (x ∷ xs) (y ∷ es) = by (int_lt (first_offset x) (entry_base y)) (int_lt (entry_base y) (first_offset x))
  where
    by : (s t : Bool) → taken_kept (chosen x y s t) ≤ length (x ∷ xs)
    by true t = omega arith
    by false true = omega arith
    by false false = omega arith

pub told_few : (xs : Batches) (es : Entries) → taken_told (next_of xs es) ≤ length es
told_few [] [] = omega arith
told_few [] (y ∷ es) = omega arith
told_few (x ∷ xs) [] = omega arith
told_few (x ∷ xs) (y ∷ es) = by (int_lt (first_offset x) (entry_base y)) (int_lt (entry_base y) (first_offset x))
  where
    by : (s t : Bool) → taken_told (chosen x y s t) ≤ length (y ∷ es)
    by true t = omega arith
    by false true = omega arith
    by false false = omega arith

pub takes_one : (step : Step) → is_done step ≡ false → 1 ≤ taken_kept step + taken_told step
takes_one Done some = absurd cc
takes_one (Kept x) some = omega arith
takes_one (Told y) some = omega arith
takes_one (Both x y) some = omega arith

-- less is left behind it
pub less_left : (xs : Batches) (es : Entries) (p q now later : ℕ) → p ≡ taken_kept (next_of xs es) → q ≡ taken_told (next_of xs es) → is_done (next_of xs es) ≡ false → later + q ≤ now
    → (length (drop p xs) + later) < (length xs + now)
less_left xs es p q now later kept told some shorter =
    let few = kept_few xs es in
    let one = takes_one (next_of xs es) some in
    omega (arith, length-drop p xs, kept, told, few, one, shorter)
