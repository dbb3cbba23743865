-- A map of the latest offset of each key in the dirty batches tells what is superseded.
use Rattle.std.proofs.Common.{◌≡◌, ℕ, ℤ, pos, ◌+ℤ◌, Bool, true, false, cond, ◌&&◌, ◌||◌, List, [], ◌∷◌, Option, Some, None, refl, sym, ap, ◌∙◌, true≢false, arith}
use Rattle.std.specs.Prelude.{◌≤ℤ◌, ◌<ℤ◌, int_lt, if◌then◌else◌}
use Rattle.std.specs.List.{filter, fold, list_any, AllByRecursion}
use Rattle.std.proofs.lemmas.Int.{ints, by_lt_z}
use Rattle.batch_codec.specs.Values.{RecordValue}
use Rattle.batch_codec.specs.Offsets.{first_offset, last_offset}
use Rattle.content.specs.ByOffset.{Rises}
use Rattle.content.specs.Records.{LogRecord, log_records, equal_keys, same_key}
use Rattle.content.specs.Content.{Content, IsContent}
use Rattle.content.specs.Cleaning.{is_cleanable, is_superseded}
use Rattle.content_laws.proofs.ByOffset.{all_from_at}
use Rattle.content_laws.proofs.Batches.{HasRecord, placed_rises}
use Rattle.content_laws.proofs.CopyFacts.{record_of_look_up}
use Rattle.content_laws.proofs.Tables.{offset_in_log}
use Rattle.content_laws.proofs.Sweeps.{held_in, reached_rise, any_by, any_of}
use Rattle.content_laws.proofs.AdjacentParts.{same_bool}
use Rattle.swept_contents.specs.Swept.{IsSettled, is_dirty, newest_dirty, is_before}
use Rattle.swept_contents.proofs.Reading.{swept_at}

-- ---- one pass over rising records

abbrev latest_step : Option (List ℕ) → Option ℤ → LogRecord → Option ℤ
latest_step key found x = if equal_keys x.1.key key then Some x.0 else found

-- what was found so far lies below
abbrev IsBelow : ℤ → Option ℤ → Type 0
IsBelow low found = (q : ℤ) → found ≡ Some q → q <ℤ low

some_same : (a b : ℤ) → Some a ≡ Some b → a ≡ b
some_same a b e = cc

latest_tells : (key : Option (List ℕ)) (o low : ℤ) (found : Option ℤ) (xs : List LogRecord) → Rises offset_in_log low xs → IsBelow low found
    → is_before o (fold (latest_step key) found xs) ≡ (is_before o found || list_any (λ y. int_lt o y.0 && equal_keys y.1.key key) xs)
latest_tells key o low found [] rise below = or_false (is_before o found)
  where
    or_false : (t : Bool) → t ≡ (t || false)
    or_false t = grind arith
latest_tells key o low found (x ∷ xs) rise below = by (equal_keys x.1.key key)
    (latest_tells key o (x.0 +ℤ pos 1) (Some x.0) xs rise.1 (λ q e. let same : x.0 ≡ q = some_same x.0 q e in omega (arith, ints, same)))
    (latest_tells key o (x.0 +ℤ pos 1) found xs rise.1 (λ q e. let less = below q e in let from = rise.0 in omega (arith, ints, less, from)))
  where
    nearer : (z : Option ℤ) → found ≡ z → is_before o z ≡ true → int_lt o x.0 ≡ true
    nearer None e f = absurd (true≢false (sym f))
    nearer (Some q) e f = let less = below q e in let from = rise.0 in grind (arith, ints, f, less, from)

    absorb : (a b r : Bool) → (a ≡ true → b ≡ true) → (b || r) ≡ (a || ((b && true) || r))
    absorb true b r up = ap (λ (t : Bool). t || r) (up refl)
    absorb false true r up = refl
    absorb false false r up = refl

    skip : (a b r : Bool) → (a || r) ≡ (a || ((b && false) || r))
    skip a b r = grind arith

    by : (t : Bool)
        → is_before o (fold (latest_step key) (Some x.0) xs) ≡ (int_lt o x.0 || list_any (λ y. int_lt o y.0 && equal_keys y.1.key key) xs)
        → is_before o (fold (latest_step key) found xs) ≡ (is_before o found || list_any (λ y. int_lt o y.0 && equal_keys y.1.key key) xs)
        → is_before o (fold (latest_step key) (cond t (Some x.0) found) xs) ≡ (is_before o found || ((int_lt o x.0 && t) || list_any (λ y. int_lt o y.0 && equal_keys y.1.key key) xs))
    by true own rest = own ∙ absorb (is_before o found) (int_lt o x.0) (list_any (λ y. int_lt o y.0 && equal_keys y.1.key key) xs) (nearer found refl)
    by false own rest = rest ∙ skip (is_before o found) (int_lt o x.0) (list_any (λ y. int_lt o y.0 && equal_keys y.1.key key) xs)

-- ---- the dirty batches

module _ (w upto : ℤ) (c : Content) (content : IsContent c) (settled : IsSettled w c) where
  -- a record is superseded by a later one of a dirty batch, or not at all
  module _ (x : LogRecord) (has : HasRecord c.kept x.0 x.1) where
    inside : (q : ℤ) (t : RecordValue) (later : HasRecord c.kept q t) → last_offset later.batch <ℤ w → (int_lt x.0 q && same_key t x.1) ≡ true → ⊥
    inside q t later less passes =
        let sup : is_superseded c w x ≡ true = any_by c content (is_cleanable w) (λ y. int_lt x.0 y.0 && same_key y.1 x.1) (record { offset = q; value = t; has = later; reached = grind (arith, ints, less); passes = passes }) in
        let behind : x.0 <ℤ q = grind (arith, ints, passes) in
        let from : first_offset has.batch ≤ℤ x.0 = has.from in
        let to : q ≤ℤ last_offset later.batch = later.to in
        true≢false (sym sup ∙ swept_at w w c content settled x.0 x.1 has (omega (arith, ints, behind, from, to, less)))

    up : is_superseded c upto x ≡ true → list_any (λ y. int_lt x.0 y.0 && same_key y.1 x.1) (log_records (filter (is_dirty w upto) c.kept)) ≡ true
    up e =
        let any = any_of c content (is_cleanable upto) (λ y. int_lt x.0 y.0 && same_key y.1 x.1) e in
        let reached = any.reached in
        let far = by_lt_z (last_offset any.has.batch) w (λ less. absurd (inside any.offset any.value any.has less any.passes)) (λ le. le) in
        any_by c content (is_dirty w upto) (λ y. int_lt x.0 y.0 && same_key y.1 x.1) (record { offset = any.offset; value = any.value; has = any.has; reached = grind (arith, ints, far, reached); passes = any.passes })

    down : list_any (λ y. int_lt x.0 y.0 && same_key y.1 x.1) (log_records (filter (is_dirty w upto) c.kept)) ≡ true → is_superseded c upto x ≡ true
    down e =
        let any = any_of c content (is_dirty w upto) (λ y. int_lt x.0 y.0 && same_key y.1 x.1) e in
        let reached = any.reached in
        any_by c content (is_cleanable upto) (λ y. int_lt x.0 y.0 && same_key y.1 x.1) (record { offset = any.offset; value = any.value; has = any.has; reached = grind (arith, reached); passes = any.passes })

    newest_is : is_superseded c upto x ≡ is_before x.0 (newest_dirty w upto c x.1.key)
    newest_is =
        same_bool (is_superseded c upto x) (list_any (λ y. int_lt x.0 y.0 && same_key y.1 x.1) (log_records (filter (is_dirty w upto) c.kept))) up down
        ∙ sym (latest_tells x.1.key x.0 c.start None (log_records (filter (is_dirty w upto) c.kept)) (reached_rise c content (is_dirty w upto) (λ y. true)) (λ q e. absurd cc))

  pub newest_tells : AllByRecursion (λ x. is_superseded c upto x ≡ is_before x.0 (newest_dirty w upto c x.1.key)) (log_records c.kept)
  newest_tells = all_from_at offset_in_log (λ (x : LogRecord). is_superseded c upto x ≡ is_before x.0 (newest_dirty w upto c x.1.key)) c.start (log_records c.kept)
      (placed_rises c.start c.kept content.disjoint content.keepable) (λ x e. newest_is x (held_in c content x.0 x.1 (record_of_look_up x.0 c.kept x e)))
