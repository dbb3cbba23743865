-- The records that a rising list shows: each is there, has a value, and no later one has its key.
use Rattle.std.proofs.Common.{◌≡◌, ℤ, pos, ◌+ℤ◌, Bool, true, false, cond, not, ◌&&◌, ◌||◌, ◌⊎◌, inl, inr, List, [], ◌∷◌, Option, Some, None, refl, sym, ap, subst, ◌∙◌, true≢false, arith}
use Rattle.std.specs.Prelude.{◌≤ℤ◌, ◌<ℤ◌, int_lt, is_some}
use Rattle.std.specs.List.{list_any}
use Rattle.std.specs.Ordering.{int_eq}
use Rattle.std.proofs.lemmas.Int.{ints}
use Rattle.content.specs.ByOffset.{look_up, Rises}
use Rattle.content.specs.Records.{LogRecord, same_key}
use Rattle.content_laws.proofs.ByOffset.{look_up-low, look_up-offset, rises-lower, same_lists}
use Rattle.content_laws.proofs.Tables.{offset_in_log}
use Rattle.group_offsets.specs.Groups.{has_key_of, shown_records}
use Rattle.answering.proofs.Checks.{not_true}

-- ---- a record of a rising list

abbrev pub IsIn : List LogRecord → LogRecord → Type 0
IsIn xs x = look_up offset_in_log x.0 xs ≡ Some x

first_in : (x : LogRecord) (xs : List LogRecord) → IsIn (x ∷ xs) x
first_in x xs = grind (arith, ints)

in_cases : (x z : LogRecord) (xs : List LogRecord) → IsIn (x ∷ xs) z → (x ≡ z) ⊎ IsIn xs z
in_cases x z xs e = by (int_eq x.0 z.0) e
  where
    by : (b : Bool) → cond b (Some x) (look_up offset_in_log z.0 xs) ≡ Some z → (x ≡ z) ⊎ IsIn xs z
    by true f = inl cc
    by false f = inr f

in_above : (low : ℤ) (z : LogRecord) (xs : List LogRecord) → Rises offset_in_log low xs → IsIn xs z → low ≤ℤ z.0
in_above low z xs rise e = by (int_lt z.0 low) refl
  where
    none_some : None ≡ Some z → ⊥
    none_some f = absurd cc

    by : (b : Bool) → int_lt z.0 low ≡ b → low ≤ℤ z.0
    by true less = absurd (none_some (sym (look_up-low offset_in_log low z.0 xs rise (grind (arith, ints, less))) ∙ e))
    by false most = grind (arith, ints, most)

in_later : (x z : LogRecord) (xs : List LogRecord) → x.0 <ℤ z.0 → IsIn xs z → IsIn (x ∷ xs) z
in_later x z xs less e = grind (arith, ints, less, e)

either_true : (a b : Bool) → b ≡ true → (a || b) ≡ true
either_true a b e = grind arith

any_at : (t : LogRecord → Bool) (xs : List LogRecord) (y : LogRecord) → IsIn xs y → t y ≡ true → list_any t xs ≡ true
any_at t [] y e is = absurd cc
any_at t (x ∷ xs) y e is = by (in_cases x y xs e) (any_at t xs y)
  where
    by : (x ≡ y) ⊎ IsIn xs y → (IsIn xs y → t y ≡ true → list_any t xs ≡ true) → (t x || list_any t xs) ≡ true
    by (inl same) rest = ap (λ (b : Bool). b || list_any t xs) (ap t same ∙ is)
    by (inr there) rest = either_true (t x) (list_any t xs) (rest there is)

any_from : (t : LogRecord → Bool) (low : ℤ) (xs : List LogRecord) → Rises offset_in_log low xs → list_any t xs ≡ true → (y : LogRecord) × IsIn xs y × (t y ≡ true)
any_from t low [] rise e = absurd (true≢false (sym e))
any_from t low (x ∷ xs) rise e = by (t x) refl e (any_from t (x.0 +ℤ pos 1) xs rise.1)
  where
    by : (b : Bool) → t x ≡ b → (b || list_any t xs) ≡ true → (list_any t xs ≡ true → (y : LogRecord) × IsIn xs y × (t y ≡ true)) → (y : LogRecord) × IsIn (x ∷ xs) y × (t y ≡ true)
    by true is f rest = (x, first_in x xs, is)
    by false is f rest =
        let found = rest f in
        let above : (x.0 +ℤ pos 1) ≤ℤ found.0.0 = in_above (x.0 +ℤ pos 1) found.0 xs rise.1 found.1 in
        (found.0, in_later x found.0 xs (omega (arith, ints, above)) found.1, found.2)

-- ---- what is shown

pub record IsShown (xs : List LogRecord) (x : LogRecord) : Type 0 where
  pub here : look_up offset_in_log x.0 xs ≡ Some x
  pub value : is_some x.1.value ≡ true
  pub last : (y : LogRecord) → look_up offset_in_log y.0 xs ≡ Some y → same_key y.1 x.1 ≡ true → y.0 ≤ℤ x.0

abbrev is_shown : LogRecord → List LogRecord → Bool
is_shown x xs = is_some x.1.value && not (has_key_of x xs)

both_parts : (a b : Bool) → (a && not b) ≡ true → (a ≡ true) × (b ≡ false)
both_parts true true e = absurd (true≢false (sym e))
both_parts true false e = (refl, refl)
both_parts false b e = absurd (true≢false (sym e))

both_hold : (a b : Bool) → a ≡ true → b ≡ false → (a && not b) ≡ true
both_hold a b e f = grind (arith, e, f)

module _ (low : ℤ) (x : LogRecord) (xs : List LogRecord) (rise : Rises offset_in_log (x.0 +ℤ pos 1) xs) where
  later_than : (z : LogRecord) → IsIn xs z → x.0 <ℤ z.0
  later_than z e = let above : (x.0 +ℤ pos 1) ≤ℤ z.0 = in_above (x.0 +ℤ pos 1) z xs rise e in omega (arith, ints, above)

  -- one that the rest shows
  shown_later : (z : LogRecord) → IsShown xs z → IsShown (x ∷ xs) z
  shown_later z is = record {
    here = in_later x z xs (later_than z is.here) is.here;
    value = is.value;
    last = λ y e same. by y same (in_cases x y xs e);
  }
    where
      by : (y : LogRecord) → same_key y.1 z.1 ≡ true → (x ≡ y) ⊎ IsIn xs y → y.0 ≤ℤ z.0
      by y same (inl at) = subst (λ (w : LogRecord). w.0 ≤ℤ z.0) at (let less : x.0 <ℤ z.0 = later_than z is.here in omega (arith, ints, less))
      by y same (inr there) = is.last y there same

  -- the first one
  shown_first : is_shown x xs ≡ true → IsShown (x ∷ xs) x
  shown_first e =
      let parts = both_parts (is_some x.1.value) (has_key_of x xs) e in
      record { here = first_in x xs; value = parts.0; last = λ y f same. by parts.1 y same (in_cases x y xs f) }
    where
      by : has_key_of x xs ≡ false → (y : LogRecord) → same_key y.1 x.1 ≡ true → (x ≡ y) ⊎ IsIn xs y → y.0 ≤ℤ x.0
      by none y same (inl at) = subst (λ (w : LogRecord). w.0 ≤ℤ x.0) at (omega (arith, ints))
      by none y same (inr there) = absurd (true≢false (sym (any_at (λ w. same_key w.1 x.1) xs y there same) ∙ none))

  -- and back
  first_shown : IsShown (x ∷ xs) x → is_shown x xs ≡ true
  first_shown is = both_hold (is_some x.1.value) (has_key_of x xs) is.value (not_true (has_key_of x xs) clash)
    where
      clash : has_key_of x xs ≡ true → ⊥
      clash e =
          let found = any_from (λ w. same_key w.1 x.1) (x.0 +ℤ pos 1) xs rise e in
          let less : x.0 <ℤ found.0.0 = later_than found.0 found.1 in
          let most : found.0.0 ≤ℤ x.0 = is.last found.0 (in_later x found.0 xs less found.1) found.2 in
          omega (arith, ints, less, most)

  later_shown : (z : LogRecord) → IsIn xs z → IsShown (x ∷ xs) z → IsShown xs z
  later_shown z there is = record {
    here = there;
    value = is.value;
    last = λ y e same. is.last y (in_later x y xs (later_than y e) e) same;
  }

  -- the list with or without the first one
  abbrev after : Bool → List LogRecord → List LogRecord
  after t shown = cond t (x ∷ shown) shown

  step_shown : (t : Bool) (shown : List LogRecord) (z : LogRecord) → is_shown x xs ≡ t → ((w : LogRecord) → IsIn shown w → IsShown xs w) → IsIn (after t shown) z → IsShown (x ∷ xs) z
  step_shown true shown z e rest there = by (in_cases x z shown there)
    where
      by : (x ≡ z) ⊎ IsIn shown z → IsShown (x ∷ xs) z
      by (inl same) = subst (IsShown (x ∷ xs)) same (shown_first e)
      by (inr in_rest) = shown_later z (rest z in_rest)
  step_shown false shown z e rest there = shown_later z (rest z there)

  step_back : (t : Bool) (shown : List LogRecord) (z : LogRecord) → is_shown x xs ≡ t → ((w : LogRecord) → IsShown xs w → IsIn shown w) → IsShown (x ∷ xs) z → IsIn (after t shown) z
  step_back t shown z e rest is = by t e (in_cases x z xs is.here)
    where
      by : (t : Bool) → is_shown x xs ≡ t → (x ≡ z) ⊎ IsIn xs z → IsIn (after t shown) z
      by true f (inl same) = subst (IsIn (x ∷ shown)) same (first_in x shown)
      by false f (inl same) = absurd (true≢false (sym (first_shown (subst (IsShown (x ∷ xs)) (sym same) is)) ∙ f))
      by true f (inr there) = in_later x z shown (later_than z there) (rest z (later_shown z there is))
      by false f (inr there) = rest z (later_shown z there is)

  step_rises : (t : Bool) (shown : List LogRecord) → Rises offset_in_log (x.0 +ℤ pos 1) shown → low ≤ℤ x.0 → Rises offset_in_log low (after t shown)
  step_rises true shown rest least = (least, rest)
  step_rises false shown rest least = rises-lower offset_in_log low (x.0 +ℤ pos 1) shown rest (omega (arith, ints, least))

pub shown_is : (low : ℤ) (xs : List LogRecord) (z : LogRecord) → Rises offset_in_log low xs → IsIn (shown_records xs) z → IsShown xs z
unfolding shown_records
shown_is low [] z rise e = absurd cc
shown_is low (x ∷ xs) z rise e = step_shown low x xs rise.1 (is_shown x xs) (shown_records xs) z refl (λ w there. shown_is (x.0 +ℤ pos 1) xs w rise.1 there) e

pub is_shown_in : (low : ℤ) (xs : List LogRecord) (z : LogRecord) → Rises offset_in_log low xs → IsShown xs z → IsIn (shown_records xs) z
unfolding shown_records
is_shown_in low [] z rise is = absurd (none is.here)
  where
    none : None ≡ Some z → ⊥
    none e = absurd cc
is_shown_in low (x ∷ xs) z rise is = step_back low x xs rise.1 (is_shown x xs) (shown_records xs) z refl (λ w shown. is_shown_in (x.0 +ℤ pos 1) xs w rise.1 shown) is

rises_shown : (low : ℤ) (xs : List LogRecord) → Rises offset_in_log low xs → Rises offset_in_log low (shown_records xs)
unfolding shown_records
rises_shown low [] rise = tt
rises_shown low (x ∷ xs) rise = step_rises low x xs rise.1 (is_shown x xs) (shown_records xs) (rises_shown (x.0 +ℤ pos 1) xs rise.1) rise.0

-- ---- lists that show the same

same_options : (a b : Option LogRecord) → ((x : LogRecord) → a ≡ Some x → b ≡ Some x) → ((x : LogRecord) → b ≡ Some x → a ≡ Some x) → a ≡ b
same_options None None there back = refl
same_options (Some x) b there back = sym (there x refl)
same_options None (Some y) there back = back y refl

found_in : (o : ℤ) (xs : List LogRecord) (x : LogRecord) → look_up offset_in_log o xs ≡ Some x → (x.0 ≡ o) × IsIn xs x
found_in o xs x e = let at : x.0 ≡ o = look_up-offset offset_in_log o xs x e in (at, ap (λ (k : ℤ). look_up offset_in_log k xs) at ∙ e)

pub same_shown : (low from : ℤ) (xs ys : List LogRecord) → Rises offset_in_log low xs → Rises offset_in_log from ys → ((x : LogRecord) → IsShown xs x → IsShown ys x) → ((x : LogRecord) → IsShown ys x → IsShown xs x)
    → shown_records xs ≡ shown_records ys
same_shown low from xs ys rise rises there back =
    same_lists offset_in_log low from (shown_records xs) (shown_records ys) (rises_shown low xs rise) (rises_shown from ys rises)
    (λ o. same_options (look_up offset_in_log o (shown_records xs)) (look_up offset_in_log o (shown_records ys)) (one o) (other o))
  where
    one : (o : ℤ) (x : LogRecord) → look_up offset_in_log o (shown_records xs) ≡ Some x → look_up offset_in_log o (shown_records ys) ≡ Some x
    one o x e =
        let found = found_in o (shown_records xs) x e in
        ap (λ (k : ℤ). look_up offset_in_log k (shown_records ys)) (sym found.0) ∙ is_shown_in from ys x rises (there x (shown_is low xs x rise found.1))

    other : (o : ℤ) (x : LogRecord) → look_up offset_in_log o (shown_records ys) ≡ Some x → look_up offset_in_log o (shown_records xs) ≡ Some x
    other o x e =
        let found = found_in o (shown_records ys) x e in
        ap (λ (k : ℤ). look_up offset_in_log k (shown_records xs)) (sym found.0) ∙ is_shown_in low xs x rise (back x (shown_is from ys x rises found.1))
