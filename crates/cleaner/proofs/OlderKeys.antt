-- Tombstones of a part that could go, and the records of their keys before it.
use Rattle.std.proofs.Common.{◌≡◌, ◌<◌, ◌≤◌, ℕ, suc, ℤ, pos, ◌+ℤ◌, Bool, true, false, cond, ◌&&◌, ◌||◌, List, [], ◌∷◌, ◌++◌, map, take, drop, length, get_or, Option, Some, None, refl, sym, ap, subst, ◌∙◌, true≢false, arith}
use Rattle.std.specs.Prelude.{◌≤ℤ◌, ◌<ℤ◌, int_lt, int_le, is_some, FitsSigned, if◌then◌else◌}
use Rattle.std.specs.Int.{w64}
use Rattle.std.specs.List.{AllByRecursion, filter, flat_map, list_any}
use Rattle.std.specs.Option.{option_or}
use Rattle.std.specs.Map.{lookup}
use Rattle.std.proofs.lemmas.Int.{ints}
use Rattle.std.proofs.lemmas.List.{append-nil, append_assoc}
use Rattle.std.proofs.lemmas.List.Concat.{flat_map-cons}
use Rattle.indexmap.specs.IndexMap as index
use Rattle.batch_codec.specs.Values.{RecordValue, BatchValue}
use Rattle.batch_codec.specs.Offsets.{first_offset, last_offset, offset_of, SpansRise}
use Rattle.content.specs.Records.{LogRecord, log_records, IsKeepable}
use Rattle.content_laws.proofs.Tables.{has_key, key_is}
use Rattle.segment.specs.BatchLists.{first_from}
use Rattle.cleaner.specs.Latest.{Borrowed, borrowed_eq, Offsets, latest_offset, Means}
use Rattle.cleaner.specs.Choice.{records_of, Test, latest_in, has_key_of, HasOffsets}
use Rattle.cleaner.specs.Older.{begins_below, may_expire, expiring_of, known_of, KnowsOlder}
use Rattle.cleaner.specs.Plans.{InOrder, NoneBegins}
use Rattle.cleaner.proofs.Kept.{placed}
use Rattle.cleaner.proofs.InReach.{each_of, order_rest}

-- ---- records of a batch that pass a test, put one after the other

one_of : (counts : Bool) (x : LogRecord) (xs : List LogRecord) → (if counts then x ∷ [] else []) ++ xs ≡ cond counts (x ∷ xs) xs
one_of true x xs = refl
one_of false x xs = refl

module _ {S : Type 0} (test : LogRecord → Bool) where
  -- what was put leads to those of the batch, with those that are left
  abbrev pub PutWhere : Offsets S → Offsets S → BatchValue → List RecordValue → Type 0
  PutWhere start now b left =
      AllByRecursion (λ r. FitsSigned w64 (offset_of b r)) left
      × ((xs : List LogRecord) → Means start xs → (done : List LogRecord) × Means now (xs ++ done) × (done ++ filter test (map (placed b) left) ≡ filter test (records_of b)))

  pub where_first : (start : Offsets S) (b : BatchValue) (left : List RecordValue) → left ≡ b.recs → HasOffsets b → PutWhere start start b left
  where_first start b left is has =
      subst (PutWhere start start b) (sym is)
      (each_of (λ r. FitsSigned w64 (offset_of b r)) b.recs has.each, λ xs means. ([], subst (Means start) (sym (append-nil xs)) means, refl))

  pub where_fits : (start now : Offsets S) (b : BatchValue) (base : ℤ) (left rest : List RecordValue) (r : RecordValue) → base ≡ b.head.base → left ≡ r ∷ rest → PutWhere start now b left → FitsSigned w64 (base +ℤ r.delta)
  where_fits start now b base left rest r same is put =
      let fits : FitsSigned w64 (offset_of b r) = (subst (AllByRecursion (λ x. FitsSigned w64 (offset_of b x))) is put.0).0 in
      subst (λ (z : ℤ). FitsSigned w64 (z +ℤ r.delta)) (sym same) fits

  pub where_more : (start now new : Offsets S) (b : BatchValue) (base : ℤ) (left rest : List RecordValue) (r : RecordValue) (counts : Bool) → base ≡ b.head.base → left ≡ r ∷ rest → counts ≡ test (base +ℤ r.delta, r)
      → ((xs : List LogRecord) → Means now xs → Means new (xs ++ (if counts then (base +ℤ r.delta, r) ∷ [] else []))) → PutWhere start now b left → PutWhere start new b rest
  where_more start now new b base left rest r counts same is tested step put = (
    (subst (AllByRecursion (λ x. FitsSigned w64 (offset_of b x))) is put.0).1,
    λ xs means.
        let p = put.1 xs means in
        let one : LogRecord = (base +ℤ r.delta, r) in
        let here : one ≡ placed b r = ap (λ (z : ℤ). let y : LogRecord = (z +ℤ r.delta, r) in y) same in
        let more : List LogRecord = (if counts then one ∷ [] else []) in
        let tail : more ++ filter test (map (placed b) rest) ≡ filter test (map (placed b) (r ∷ rest))
        = one_of counts one (filter test (map (placed b) rest))
        ∙ (λ i. cond ((tested ∙ ap test here) i) (here i ∷ filter test (map (placed b) rest)) (filter test (map (placed b) rest))) in
        let all : (p.0 ++ more) ++ filter test (map (placed b) rest) ≡ filter test (records_of b)
        = append_assoc p.0 more (filter test (map (placed b) rest)) ∙ ap (λ (l : List LogRecord). p.0 ++ l) tail ∙ ap (λ (l : List RecordValue). p.0 ++ filter test (map (placed b) l)) (sym is) ∙ p.2 in
        (p.0 ++ more, subst (Means new) (append_assoc xs p.0 more) (step (xs ++ p.0) p.1), all),
  )

  pub where_none : (start now : Offsets S) (b : BatchValue) (left : List RecordValue) → left ≡ [] → PutWhere start now b left → (xs : List LogRecord) → Means start xs → Means now (xs ++ filter test (records_of b))
  where_none start now b left is put xs means =
      let p = put.1 xs means in
      let all : p.0 ≡ filter test (records_of b) = sym (append-nil p.0) ∙ ap (λ (l : List RecordValue). p.0 ++ filter test (map (placed b) l)) (sym is) ∙ p.2 in
      subst (λ (l : List LogRecord). Means now (xs ++ l)) all p.1

-- ---- what is in the maps

some_latest : (k : List ℕ) (xs : List LogRecord) → is_some (latest_offset k xs) ≡ list_any (has_key k) xs
some_latest k [] = refl
some_latest k (x ∷ xs) = by (latest_offset k xs) (has_key k x) (some_latest k xs)
  where
    by : (o : Option ℤ) (own : Bool) → is_some o ≡ list_any (has_key k) xs → is_some (option_or o (if own then Some x.0 else None)) ≡ (own || list_any (has_key k) xs)
    by None true ih = refl
    by None false ih = ih
    by (Some y) true ih = refl
    by (Some y) false ih = ih

filter_append : (t : LogRecord → Bool) (xs ys : List LogRecord) → filter t (xs ++ ys) ≡ filter t xs ++ filter t ys
filter_append t [] ys = refl
filter_append t (x ∷ xs) ys = by (t x) (filter_append t xs ys)
  where
    by : (s : Bool) → filter t (xs ++ ys) ≡ filter t xs ++ filter t ys → cond s (x ∷ filter t (xs ++ ys)) (filter t (xs ++ ys)) ≡ cond s (x ∷ filter t xs) (filter t xs) ++ filter t ys
    by true ih = ap (λ (l : List LogRecord). x ∷ l) ih
    by false ih = ih

picked : (t : LogRecord → Bool) (bs : List BatchValue) → flat_map (λ b. filter t (records_of b)) bs ≡ filter t (log_records bs)
picked t [] = refl
picked t (b ∷ bs) =
    flat_map-cons (λ x. filter t (records_of x)) b bs
    ∙ ap (λ (l : List LogRecord). filter t (records_of b) ++ l) (picked t bs)
    ∙ sym (ap (filter t) (flat_map-cons records_of b bs) ∙ filter_append t (records_of b) (log_records bs))

any_filter : (t q : LogRecord → Bool) (xs : List LogRecord) → list_any q (filter t xs) ≡ list_any (λ x. t x && q x) xs
any_filter t q [] = refl
any_filter t q (x ∷ xs) = by (t x) (any_filter t q xs)
  where
    by : (s : Bool) → list_any q (filter t xs) ≡ list_any (λ y. t y && q y) xs → list_any q (cond s (x ∷ filter t xs) (filter t xs)) ≡ ((s && q x) || list_any (λ y. t y && q y) xs)
    by true ih = ap (λ (s : Bool). q x || s) ih
    by false ih = ih

any_same : (p q : LogRecord → Bool) → ((x : LogRecord) → p x ≡ q x) → (xs : List LogRecord) → list_any p xs ≡ list_any q xs
any_same p q same [] = refl
any_same p q same (x ∷ xs) = λ i. same x i || any_same p q same xs i

module _ {S : Type 0} where
  -- a map of those that pass a test has a key where one of them has it
  has_where : (m : Offsets S) (t : LogRecord → Bool) (bs : List BatchValue) (k : List ℕ) → Means m (flat_map (λ b. filter t (records_of b)) bs) → is_some (latest_in m (Some k)) ≡ list_any (λ x. t x && has_key k x) (log_records bs)
  has_where m t bs k means =
      ap is_some (means.each (record { ref_ptr = (0, 0); now = k })) ∙ some_latest k (flat_map (λ b. filter t (records_of b)) bs) ∙ ap (list_any (has_key k)) (picked t bs) ∙ any_filter t (has_key k) (log_records bs)

  pub knows_older : (m : Test) (expiring older : Offsets S) (bound : ℤ) (part before : List BatchValue) → Means expiring (flat_map (expiring_of m bound) part) → Means older (flat_map (known_of expiring) before)
      → KnowsOlder m older bound (log_records part) (log_records before)
  knows_older m expiring older bound part before means_expiring means_older = record {
    tells = λ k some.
        let there : is_some (latest_in expiring (Some k)) ≡ true = has_where expiring (may_expire m bound) part k means_expiring ∙ some in
        has_where older (has_key_of expiring) before k means_older ∙ any_same (λ y. has_key_of expiring y && has_key k y) (has_key k) (λ y. by k there y (has_key k y) refl) (log_records before);
  }
    where
      by : (k : List ℕ) → is_some (latest_in expiring (Some k)) ≡ true → (y : LogRecord) (own : Bool) → has_key k y ≡ own → (has_key_of expiring y && has_key k y) ≡ has_key k y
      by k there y true e = let known : has_key_of expiring y ≡ true = ap (λ (z : Option (List ℕ)). is_some (latest_in expiring z)) (key_is k y.1.key e) ∙ there in ap (λ (s : Bool). s && has_key k y) known
      by k there y false e = (λ i. has_key_of expiring y && e i) ∙ none (has_key_of expiring y) ∙ sym e
        where
          none : (s : Bool) → (s && false) ≡ false
          none true = refl
          none false = refl

  pub no_entries : (m : Offsets S) → index.index_map_len m ≡ 0 → index.IsEmpty m
  no_entries m none = by m.entries none
    where
      by : (es : List (Borrowed × ℤ)) → length es ≡ 0 → es ≡ []
      by [] e = refl
      by (x ∷ es) e = absurd (omega (arith, e))

  -- where no tombstone could go
  pub none_expire : (m : Test) (expiring older : Offsets S) (bound : ℤ) (part : List BatchValue) (before : List LogRecord) → Means expiring (flat_map (expiring_of m bound) part) → index.index_map_len expiring ≡ 0 → KnowsOlder m older bound (log_records part) before
  none_expire m expiring older bound part before means nothing = record {
    tells = λ k some.
        let there : is_some (latest_in expiring (Some k)) ≡ true = has_where expiring (may_expire m bound) part k means ∙ some in
        let none : is_some (latest_in expiring (Some k)) ≡ false = ap (λ (es : List (Borrowed × ℤ)). is_some (lookup (borrowed_eq (record { ref_ptr = (0, 0); now = k })) es)) (no_entries expiring nothing) in
        absurd (true≢false (sym there ∙ none));
  }

  -- where no batch begins before the part
  pub none_before : (m : Test) (older : Offsets S) (bound from : ℤ) (part : List LogRecord) (bs : List BatchValue) → index.IsEmpty older → AllByRecursion (λ b. from ≤ℤ first_offset b) bs → KnowsOlder m older bound part (log_records (filter (begins_below from) bs))
  none_before m older bound from part bs empty behind = record {
    tells = λ k some.
        let none : is_some (latest_in older (Some k)) ≡ false = ap (λ (es : List (Borrowed × ℤ)). is_some (lookup (borrowed_eq (record { ref_ptr = (0, 0); now = k })) es)) empty in
        none ∙ sym (ap (λ (l : List BatchValue). list_any (has_key k) (log_records l)) (nothing bs behind));
  }
    where
      nothing : (bs : List BatchValue) → AllByRecursion (λ b. from ≤ℤ first_offset b) bs → filter (begins_below from) bs ≡ []
      nothing [] behind = refl
      nothing (b ∷ bs) behind =
          let here : begins_below from b ≡ false = not_below from (first_offset b) behind.0 in
          (λ i. cond (here i) (b ∷ filter (begins_below from) bs) (filter (begins_below from) bs)) ∙ nothing bs behind.1
        where
          not_below : (from o : ℤ) → from ≤ℤ o → int_lt o from ≡ false
          not_below from o le = grind (arith, ints)

-- ---- the batches that begin before a part

pub begins_from : (from low : ℤ) (bs : List BatchValue) → from ≤ℤ low → SpansRise low bs → AllByRecursion IsKeepable bs → AllByRecursion (λ b. from ≤ℤ first_offset b) bs
begins_from from low [] le spans keepable = tt
begins_from from low (b ∷ bs) le spans keepable =
    let delta : pos 0 ≤ℤ b.head.last_delta = keepable.0.0.valid.last_delta in
    let here : low ≤ℤ first_offset b = spans.0 in
    (omega (arith, ints), begins_from from (last_offset b +ℤ pos 1) bs (omega (arith, ints)) spans.1 keepable.1)

none_begins : (from : ℤ) (bs : List BatchValue) → AllByRecursion (λ b. from ≤ℤ first_offset b) bs → NoneBegins from bs
none_begins from [] behind = tt
none_begins from (b ∷ bs) behind = (not_below (first_offset b) behind.0, none_begins from bs behind.1)
  where
    not_below : (o : ℤ) → from ≤ℤ o → int_lt o from ≡ false
    not_below o le = grind (arith, ints)

-- what the test says, by the numbers as they were passed
pub from_on : (from o passed base : ℤ) → passed ≡ from → base ≡ o → int_lt base passed ≡ false → from ≤ℤ o
from_on from o passed base same here e = grind (arith, ints)

pub below_it : (from o passed base : ℤ) → passed ≡ from → base ≡ o → int_lt base passed ≡ true → o <ℤ from
below_it from o passed base same here e = grind (arith, ints)

-- a batch that doesn't begin below the offset, and all behind it
pub none_begin_first : (from low : ℤ) (b : BatchValue) (old bs : List BatchValue) → old ≡ b ∷ bs → InOrder low old → from ≤ℤ first_offset b → NoneBegins from old
none_begin_first from low b old bs split order least =
    let whole : InOrder low (b ∷ bs) = subst (InOrder low) split order in
    subst (NoneBegins from) (sym split) (none_begins from (b ∷ bs) (begins_from from (first_offset b) (b ∷ bs) least (omega (arith, ints), whole.rises.1) whole.keepable))

abbrev pub AllBefore : ℤ → List BatchValue → Type 0
AllBefore from bs = AllByRecursion (λ b. first_offset b <ℤ from) bs

abbrev pub AllBehind : ℤ → List BatchValue → Type 0
AllBehind from bs = AllByRecursion (λ b. from ≤ℤ first_offset b) bs

-- the index of the first batch that ends at the offset or behind it, and whether it begins before it
pub splits_at : (from low : ℤ) (bs : List BatchValue) (d : BatchValue) → InOrder low bs
    → (first_from from bs < length bs → first_offset (get_or bs (first_from from bs) d) <ℤ from → AllBefore from (take (suc (first_from from bs)) bs) × AllBehind from (drop (suc (first_from from bs)) bs))
    × ((first_from from bs < length bs → from ≤ℤ first_offset (get_or bs (first_from from bs) d)) → AllBefore from (take (first_from from bs) bs) × AllBehind from (drop (first_from from bs) bs))
unfolding first_from
splits_at from low [] d order = (λ within less. (tt, tt), λ behind. (tt, tt))
splits_at from low (b ∷ bs) d order = by (int_le from (last_offset b)) refl (splits_at from (last_offset b +ℤ pos 1) bs d (order_rest low b bs order))
  where
    delta : pos 0 ≤ℤ b.head.last_delta
    delta = order.keepable.0.0.valid.last_delta

    rest : from ≤ℤ (last_offset b +ℤ pos 1) → AllBehind from bs
    rest le = begins_from from (last_offset b +ℤ pos 1) bs le order.rises.1 order.keepable.1

    Splits : List BatchValue → ℕ → Type 0
    Splits xs n =
        (n < length xs → first_offset (get_or xs n d) <ℤ from → AllBefore from (take (suc n) xs) × AllBehind from (drop (suc n) xs))
        × ((n < length xs → from ≤ℤ first_offset (get_or xs n d)) → AllBefore from (take n xs) × AllBehind from (drop n xs))

    ends_behind : int_le from (last_offset b) ≡ true → from ≤ℤ (last_offset b +ℤ pos 1)
    ends_behind e = grind (arith, ints)

    ends_before : int_le from (last_offset b) ≡ false → first_offset b <ℤ from
    ends_before e = let less : last_offset b <ℤ from = grind (arith, ints) in omega (arith, ints, less, delta)

    by : (t : Bool) → int_le from (last_offset b) ≡ t → Splits bs (first_from from bs) → Splits (b ∷ bs) (if t then 0 else suc (first_from from bs))
    by true e ih = (
      λ within less. ((less, tt), rest (ends_behind e)),
      λ behind. (tt, (behind (omega arith), rest (ends_behind e))),
    )
    by false e ih = (
      λ within less. let r = ih.0 (omega (arith, within)) less in ((ends_before e, r.0), r.1),
      λ behind. let r = ih.1 (λ within. behind (omega (arith, within))) in ((ends_before e, r.0), r.1),
    )

-- where the batch there begins before the offset
pub split_behind : (from passed low : ℤ) (bs : List BatchValue) (b : BatchValue) (i j : ℕ) → passed ≡ from → i ≡ first_from passed bs → InOrder low bs → i < length bs → b ≡ get_or bs i b → first_offset b <ℤ from → j ≡ suc i
    → AllBefore from (take j bs) × AllBehind from (drop j bs)
split_behind from passed low bs b i j same is order within at less next =
    let here : i ≡ first_from from bs = is ∙ ap (λ (z : ℤ). first_from z bs) same in
    let made = (splits_at from low bs b order).0 (subst (λ (n : ℕ). n < length bs) here within) (subst (λ (n : ℕ). first_offset (get_or bs n b) <ℤ from) here (subst (λ (x : BatchValue). first_offset x <ℤ from) at less)) in
    subst (λ (n : ℕ). AllBefore from (take n bs) × AllBehind from (drop n bs)) (sym (next ∙ ap suc here)) made

-- where it doesn't, or there is none
pub split_here : (from passed low : ℤ) (bs : List BatchValue) (d : BatchValue) (i : ℕ) → passed ≡ from → i ≡ first_from passed bs → InOrder low bs → (i < length bs → from ≤ℤ first_offset (get_or bs i d)) → AllBefore from (take i bs) × AllBehind from (drop i bs)
split_here from passed low bs d i same is order behind =
    let here : i ≡ first_from from bs = is ∙ ap (λ (z : ℤ). first_from z bs) same in
    let made = (splits_at from low bs d order).1 (subst (λ (n : ℕ). n < length bs → from ≤ℤ first_offset (get_or bs n d)) here behind) in
    subst (λ (n : ℕ). AllBefore from (take n bs) × AllBehind from (drop n bs)) (sym here) made

pub at_most_all : (offset : ℤ) (bs : List BatchValue) → first_from offset bs ≤ length bs
unfolding first_from
at_most_all offset [] = omega arith
at_most_all offset (b ∷ bs) = by (int_le offset (last_offset b)) (at_most_all offset bs)
  where
    by : (t : Bool) → first_from offset bs ≤ length bs → (if t then 0 else suc (first_from offset bs)) ≤ suc (length bs)
    by true le = omega arith
    by false le = omega (arith, le)
