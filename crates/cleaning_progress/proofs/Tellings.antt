-- A map that takes in the dirty batches tells of them too.
use Rattle.std.proofs.Common.{◌≡◌, ℕ, ℤ, Bool, true, false, cond, ◌&&◌, ◌||◌, List, [], ◌∷◌, Option, Some, None, refl, sym, ap, subst, ◌∙◌, arith}
use Rattle.std.specs.Prelude.{◌≤ℤ◌, ◌<ℤ◌, int_lt, IsSome, if◌then◌else◌}
use Rattle.std.specs.Int.{int_max}
use Rattle.std.specs.List.{filter, fold, list_any, AllByRecursion}
use Rattle.std.proofs.lemmas.Int.{ints, clamps, by_lt_z}
use Rattle.batch_codec.specs.Values.{RecordValue, BatchValue}
use Rattle.batch_codec.specs.Offsets.{last_offset}
use Rattle.content.specs.Records.{LogRecord, log_records, equal_keys, same_key}
use Rattle.content.specs.Content.{Content, IsContent}
use Rattle.content.specs.Cleaning.{is_cleanable, is_superseded}
use Rattle.content_laws.proofs.ByOffset.{all_at, all_from_at}
use Rattle.content_laws.proofs.Batches.{HasRecord}
use Rattle.content_laws.proofs.Tables.{offset_in_log}
use Rattle.content_laws.proofs.Sweeps.{any_by, any_of, of_reached, reached_rise, keepable_of}
use Rattle.content_laws.proofs.AdjacentParts.{same_bool}
use Rattle.swept_contents.specs.Swept.{is_dirty, is_before}
use Rattle.newest_keys.specs.Newest.{Newest, raised, with_records}
use Rattle.newest_keys.specs.Shards.{Shards}
use Rattle.cleaning_progress.specs.Progress.{Known, newest_of, found, Tells, LieBelow, IsKnownOf}
use Rattle.cleaning_progress.specs.Extending.{TakesDirty}
use Rattle.cleaning_progress.proofs.Known.{all_records, at_record}

-- ---- records that come into a map

abbrev step : List ℕ → Option ℤ → LogRecord → Option ℤ
step key f x = if equal_keys x.1.key (Some key) then Some (raised f x.0) else f

later : (o q : ℤ) (f : Option ℤ) → is_before o (Some (raised f q)) ≡ (is_before o f || int_lt o q)
later o q None = refl
later o q (Some p) = by_lt_z o p
    (λ less. by_max (grind (arith, ints, less)) (omega (arith, ints, clamps, less)))
    (λ le. by_lt_z o q (λ less. at_q (omega (arith, ints, clamps, less))) (λ more. none le more (omega (arith, ints, clamps, le, more))))
  where
    by_max : int_lt o p ≡ true → o <ℤ int_max p q → int_lt o (int_max p q) ≡ (int_lt o p || int_lt o q)
    by_max e less = grind (arith, ints, e, less)

    at_q : o <ℤ int_max p q → int_lt o (int_max p q) ≡ (int_lt o p || int_lt o q)
    at_q less = grind (arith, ints, clamps, less)

    none : p ≤ℤ o → q ≤ℤ o → int_max p q ≤ℤ o → int_lt o (int_max p q) ≡ (int_lt o p || int_lt o q)
    none a b m = grind (arith, ints, a, b, m)

pub records_tell : (key : List ℕ) (o : ℤ) (f : Option ℤ) (xs : List LogRecord) → is_before o (fold (step key) f xs) ≡ (is_before o f || list_any (λ y. int_lt o y.0 && equal_keys y.1.key (Some key)) xs)
records_tell key o f [] = or_false (is_before o f)
  where
    or_false : (t : Bool) → t ≡ (t || false)
    or_false t = grind arith
records_tell key o f (x ∷ xs) = records_tell key o (step key f x) xs ∙ by (equal_keys x.1.key (Some key))
  where
    rest : Bool
    rest = list_any (λ y. int_lt o y.0 && equal_keys y.1.key (Some key)) xs

    over : (a b r : Bool) → ((a || b) || r) ≡ (a || ((b && true) || r))
    over a b r = grind arith

    skip : (a b r : Bool) → (a || r) ≡ (a || ((b && false) || r))
    skip a b r = grind arith

    by : (t : Bool) → (is_before o (cond t (Some (raised f x.0)) f) || rest) ≡ (is_before o f || ((int_lt o x.0 && t) || rest))
    by true = ap (λ (b : Bool). b || rest) (later o x.0 f) ∙ over (is_before o f) (int_lt o x.0) rest
    by false = skip (is_before o f) (int_lt o x.0) rest

-- offsets below a bound stay so
pub records_below : (key : List ℕ) (bound : ℤ) (f : Option ℤ) (xs : List LogRecord) → ((q : ℤ) → f ≡ Some q → q <ℤ bound) → AllByRecursion (λ x. x.0 <ℤ bound) xs → (q : ℤ) → fold (step key) f xs ≡ Some q → q <ℤ bound
records_below key bound f [] low all q e = low q e
records_below key bound f (x ∷ xs) low all q e = records_below key bound (step key f x) xs (by (equal_keys x.1.key (Some key))) all.1 q e
  where
    some_same : (a b : ℤ) → Some a ≡ Some b → a ≡ b
    some_same a b same = cc

    raised_low : (g : Option ℤ) → ((p : ℤ) → g ≡ Some p → p <ℤ bound) → raised g x.0 <ℤ bound
    raised_low None under = all.0
    raised_low (Some p) under = let a = under p refl in let b = all.0 in omega (arith, ints, clamps, a, b)

    by : (t : Bool) → (p : ℤ) → cond t (Some (raised f x.0)) f ≡ Some p → p <ℤ bound
    by true p is = let same = some_same (raised f x.0) p is in let less = raised_low f low in omega (arith, ints, same, less)
    by false p is = low p is

no_key : IsSome {T = List ℕ} None → ⊥
no_key some = cc

-- ---- the dirty batches of a content

module _ (from end : ℤ) (old new : Newest) (c : Content) (content : IsContent c) (on : from ≤ℤ end) (tells : Tells old from c) (below : LieBelow old from) (takes : (key : List ℕ) → new key ≡ with_records old (log_records (filter (is_dirty from end) c.kept)) key) where
  dirty_below : AllByRecursion (λ x. x.0 <ℤ end) (log_records (filter (is_dirty from end) c.kept))
  dirty_below = all_from_at offset_in_log (λ (x : LogRecord). x.0 <ℤ end) c.start (log_records (filter (is_dirty from end) c.kept)) (reached_rise c content (is_dirty from end) (λ x. true))
      (λ x e. let of = of_reached c content (is_dirty from end) (λ x. true) x e in low x of.0 of.1)
    where
      low : (x : LogRecord) → (has : HasRecord c.kept x.0 x.1) → is_dirty from end has.batch ≡ true → x.0 <ℤ end
      low x has is = let to : x.0 ≤ℤ last_offset has.batch = has.to in let less : last_offset has.batch <ℤ end = grind (arith, ints, is) in omega (arith, ints, to, less)

  pub still_below : LieBelow new end
  still_below key o e = records_below key end (old key) (log_records (filter (is_dirty from end) c.kept)) (λ q at. let less = below key q at in omega (arith, ints, less, on)) dirty_below o (sym (takes key) ∙ e)

  module _ (x : LogRecord) (has : HasRecord c.kept x.0 x.1) where
    -- a later record of a batch below the new end is one of a batch below the old one, or of a dirty one
    up : is_superseded c end x ≡ true → (is_superseded c from x || list_any (λ y. int_lt x.0 y.0 && same_key y.1 x.1) (log_records (filter (is_dirty from end) c.kept))) ≡ true
    up e =
        let any = any_of c content (is_cleanable end) (λ y. int_lt x.0 y.0 && same_key y.1 x.1) e in
        let reached = any.reached in
        by_lt_z (last_offset any.has.batch) from
        (λ less. left (any_by c content (is_cleanable from) (λ y. int_lt x.0 y.0 && same_key y.1 x.1) (record { offset = any.offset; value = any.value; has = any.has; reached = grind (arith, ints, less); passes = any.passes })))
        (λ far. right (any_by c content (is_dirty from end) (λ y. int_lt x.0 y.0 && same_key y.1 x.1) (record { offset = any.offset; value = any.value; has = any.has; reached = grind (arith, ints, far, reached); passes = any.passes })))
      where
        others : Bool
        others = list_any (λ y. int_lt x.0 y.0 && same_key y.1 x.1) (log_records (filter (is_dirty from end) c.kept))

        left : is_superseded c from x ≡ true → (is_superseded c from x || others) ≡ true
        left e = ap (λ (t : Bool). t || others) e

        right : others ≡ true → (is_superseded c from x || others) ≡ true
        right e = ap (λ (t : Bool). is_superseded c from x || t) e ∙ or_true (is_superseded c from x)
          where
            or_true : (t : Bool) → (t || true) ≡ true
            or_true t = grind arith

    down : (is_superseded c from x || list_any (λ y. int_lt x.0 y.0 && same_key y.1 x.1) (log_records (filter (is_dirty from end) c.kept))) ≡ true → is_superseded c end x ≡ true
    down e = by (is_superseded c from x) refl e
      where
        by : (t : Bool) → is_superseded c from x ≡ t → (t || list_any (λ y. int_lt x.0 y.0 && same_key y.1 x.1) (log_records (filter (is_dirty from end) c.kept))) ≡ true → is_superseded c end x ≡ true
        by true sup f =
            let any = any_of c content (is_cleanable from) (λ y. int_lt x.0 y.0 && same_key y.1 x.1) sup in
            let reached = any.reached in
            any_by c content (is_cleanable end) (λ y. int_lt x.0 y.0 && same_key y.1 x.1) (record { offset = any.offset; value = any.value; has = any.has; reached = grind (arith, ints, reached, on); passes = any.passes })
        by false sup f =
            let any = any_of c content (is_dirty from end) (λ y. int_lt x.0 y.0 && same_key y.1 x.1) f in
            let reached = any.reached in
            any_by c content (is_cleanable end) (λ y. int_lt x.0 y.0 && same_key y.1 x.1) (record { offset = any.offset; value = any.value; has = any.has; reached = grind (arith, reached); passes = any.passes })

    has_key : IsSome x.1.key
    has_key = all_at (λ (r : RecordValue). r.delta) (λ (r : RecordValue). IsSome r.key) _ has.batch.recs x.1 (keepable_of c content x.0 x.1 has).1 has.here

    one : is_superseded c end x ≡ is_before x.0 (found new x.1.key)
    one = same_bool _ _ up down ∙ by x.1.key refl has_key
      where
        by : (key : Option (List ℕ)) → x.1.key ≡ key → IsSome key → (is_superseded c from x || list_any (λ y. int_lt x.0 y.0 && same_key y.1 x.1) (log_records (filter (is_dirty from end) c.kept))) ≡ is_before x.0 (found new key)
        by None e some = absurd (no_key some)
        by (Some key) e some =
            ap (λ (t : Bool). t || list_any (λ y. int_lt x.0 y.0 && same_key y.1 x.1) (log_records (filter (is_dirty from end) c.kept)))
            (at_record c content (λ y. is_superseded c from y ≡ is_before y.0 (found old y.1.key)) tells x.0 x.1 has ∙ ap (λ (k : Option (List ℕ)). is_before x.0 (found old k)) e)
            ∙ ap (λ (k : Option (List ℕ)). is_before x.0 (old key) || list_any (λ y. int_lt x.0 y.0 && equal_keys y.1.key k) (log_records (filter (is_dirty from end) c.kept))) e
            ∙ sym (records_tell key x.0 (old key) (log_records (filter (is_dirty from end) c.kept)))
            ∙ ap (is_before x.0) (sym (takes key))

  pub tells_more : Tells new end c
  tells_more = all_records c content (λ x. is_superseded c end x ≡ is_before x.0 (found new x.1.key)) one

-- ---- what is known

pub known_more : (c : Content) (k : Known) (end : ℤ) (newest : Option Shards) (bs : List BatchValue) → IsContent c → c.kept ≡ bs → TakesDirty k.known_to end (newest_of k.newest) (newest_of newest) bs → IsKnownOf c k → IsKnownOf c (record k { known_to = end; newest = newest })
known_more c k end newest bs content kept takes is =
    let in_kept : (key : List ℕ) → newest_of newest key ≡ with_records (newest_of k.newest) (log_records (filter (is_dirty k.known_to end) c.kept)) key = λ key. takes.takes key ∙ ap (λ (l : List BatchValue). with_records (newest_of k.newest) (log_records (filter (is_dirty k.known_to end) l)) key) (sym kept) in
    record {
      settled = is.settled;
      swept = is.swept;
      tells = tells_more k.known_to end (newest_of k.newest) (newest_of newest) c content takes.on is.tells is.below in_kept;
      below = still_below k.known_to end (newest_of k.newest) (newest_of newest) c content takes.on is.tells is.below in_kept;
    }

-- the same of a map that has the same at each key, and of equal offsets
pub same_takes : (from from' end end' : ℤ) (old old' new : Newest) (bs : List BatchValue) → from' ≡ from → end' ≡ end → ((key : List ℕ) → old' key ≡ old key) → TakesDirty from' end old' new bs → TakesDirty from end' old new bs
same_takes from from' end end' old old' new bs same there each takes =
    subst (λ (f : ℤ). TakesDirty f end' old new bs) same (subst (λ (e : ℤ). TakesDirty from' e old new bs) (sym there) (record {
      on = takes.on;
      takes = λ key. takes.takes key ∙ ap (λ (f : Option ℤ). fold (step key) f (log_records (filter (is_dirty from' end) bs))) (each key);
    }))
