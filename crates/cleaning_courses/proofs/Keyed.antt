-- What a cleaning, an append and a later start do to the records of a key: batch by batch, and record by record.
use Rattle.std.proofs.Common.{◌≡◌, ℕ, ℤ, negsuc, Bool, true, false, cond, ◌&&◌, ◌||◌, List, [], ◌∷◌, ◌++◌, map, reverse, Option, Some, None, refl, sym, ap, ◌∙◌, true≢false, ◌⊎◌, inl, inr, arith}
use Rattle.std.specs.Prelude.{◌≤ℤ◌, ◌<ℤ◌, int_lt}
use Rattle.std.specs.List.{filter, filter_map, cons_option, list_any, AllByRecursion}
use Rattle.std.proofs.lemmas.Int.{ints}
use Rattle.std.proofs.lemmas.List.{map-append}
use Rattle.std.proofs.lemmas.List.Concat.{flat_map-cons}
use Rattle.std.proofs.lemmas.List.Folds.{list_any-append}
use Rattle.batch_codec.specs.Values.{RecordValue, BatchValue}
use Rattle.batch_codec.specs.Grammar.{AreValidRecords}
use Rattle.batch_codec.specs.Offsets.{first_offset, last_offset, offset_of}
use Rattle.content.specs.Records.{LogRecord, log_records, equal_keys, same_key, IsKeepable}
use Rattle.content.specs.Cleaning.{is_cleanable}
use Rattle.content.specs.Parts.{NoneIsAcross}
use Rattle.content_laws.proofs.Tables.{exact}
use Rattle.cleaning_policy.specs.Readers.{KeyRecord}
use Rattle.cleaning_courses.specs.Keys.{has_key, key_record, records_in}
use Rattle.cleaning_courses.proofs.Lists.{filter-append, filter-reverse, list_any_same}

abbrev pub Batches : Type 0
Batches = List BatchValue

abbrev pub Key : Type 0
Key = Option (List ℕ)

-- a batch's records, with their offsets
abbrev pub placed : BatchValue → List LogRecord
placed b = map (λ r. (offset_of b r, r)) b.recs

-- those of a key, the earliest first: of some records, of a batch, of batches
abbrev pub keyed : Key → List LogRecord → List KeyRecord
keyed key xs = map key_record (filter (has_key key) xs)

keyed-append : (key : Key) (xs ys : List LogRecord) → keyed key (xs ++ ys) ≡ keyed key xs ++ keyed key ys
keyed-append key xs ys = ap (map key_record) (filter-append (has_key key) xs ys) ∙ map-append key_record (filter (has_key key) xs) (filter (has_key key) ys)

pub keyed-cons : (key : Key) (b : BatchValue) (bs : Batches) → keyed key (log_records (b ∷ bs)) ≡ keyed key (placed b) ++ keyed key (log_records bs)
keyed-cons key b bs = ap (keyed key) (flat_map-cons placed b bs) ∙ keyed-append key (placed b) (log_records bs)

-- ---- where a batch's records lie

abbrev pub IsInSpan : BatchValue → RecordValue → Type 0
IsInSpan b r = (first_offset b ≤ℤ offset_of b r) × (offset_of b r ≤ℤ last_offset b)

in_span : (b : BatchValue) (before : ℤ) (rs : List RecordValue) → negsuc 0 ≤ℤ before → AreValidRecords b.head before rs → AllByRecursion (IsInSpan b) rs
in_span b before [] least valid = tt
in_span b before (r ∷ rs) least valid =
    let rises : before <ℤ r.delta = valid.0.rises in
    let within : r.delta ≤ℤ b.head.last_delta = valid.0.within in
    ((omega (arith, ints, least, rises), omega (arith, ints, within)), in_span b r.delta rs (omega (arith, ints, least, rises)) valid.1)

pub records_in_span : (b : BatchValue) → IsKeepable b → AllByRecursion (IsInSpan b) b.recs
records_in_span b keepable = in_span b (negsuc 0) b.recs (omega (arith, ints)) keepable.0.valid.records

-- ---- some records of each batch

-- of a batch, the test leaves of the key's records just those that pass another one
module _ (key : Key) (place : RecordValue → LogRecord) (t : RecordValue → Bool) (p : KeyRecord → Bool) where
  pub part_of_records : (rs : List RecordValue) → AllByRecursion (λ r. has_key key (place r) ≡ true → t r ≡ p (key_record (place r))) rs
      → keyed key (map place (filter t rs)) ≡ filter p (keyed key (map place rs))
  part_of_records [] same = refl
  part_of_records (r ∷ rs) same = by (t r) (has_key key (place r)) refl refl (part_of_records rs same.1)
    where
      one : (b : Bool) → p (key_record (place r)) ≡ b → filter p (key_record (place r) ∷ keyed key (map place rs)) ≡ cond b (key_record (place r) ∷ filter p (keyed key (map place rs))) (filter p (keyed key (map place rs)))
      one b e = ap (λ (c : Bool). cond c (key_record (place r) ∷ filter p (keyed key (map place rs))) (filter p (keyed key (map place rs)))) e

      by : (a h : Bool) → t r ≡ a → has_key key (place r) ≡ h → keyed key (map place (filter t rs)) ≡ filter p (keyed key (map place rs))
          → keyed key (map place (cond a (r ∷ filter t rs) (filter t rs))) ≡ filter p (map key_record (cond h (place r ∷ filter (has_key key) (map place rs)) (filter (has_key key) (map place rs))))
      by true true e f ih =
          ap (λ (c : Bool). map key_record (cond c (place r ∷ filter (has_key key) (map place (filter t rs))) (filter (has_key key) (map place (filter t rs))))) f
          ∙ ap (λ (l : List KeyRecord). key_record (place r) ∷ l) ih
          ∙ sym (one true (sym (same.0 f) ∙ e))
      by false true e f ih = ih ∙ sym (one false (sym (same.0 f) ∙ e))
      by true false e f ih = ap (λ (c : Bool). map key_record (cond c (place r ∷ filter (has_key key) (map place (filter t rs))) (filter (has_key key) (map place (filter t rs))))) f ∙ ih
      by false false e f ih = ih

abbrev pub of_option : Key → Option BatchValue → List KeyRecord
of_option key None = []
of_option key (Some b) = keyed key (placed b)

-- of batches, where each one leaves just what passes
pub part_of_batches : (key : Key) (h : BatchValue → Option BatchValue) (p : KeyRecord → Bool) (bs : Batches) → AllByRecursion (λ b. of_option key (h b) ≡ filter p (keyed key (placed b))) bs
    → keyed key (log_records (filter_map h bs)) ≡ filter p (keyed key (log_records bs))
part_of_batches key h p [] each = refl
part_of_batches key h p (b ∷ bs) each =
    front (h b) ∙ (λ i. each.0 i ++ part_of_batches key h p bs each.1 i) ∙ sym (filter-append p (keyed key (placed b)) (keyed key (log_records bs))) ∙ ap (filter p) (sym (keyed-cons key b bs))
  where
    front : (z : Option BatchValue) → keyed key (log_records (cons_option z (filter_map h bs))) ≡ of_option key z ++ keyed key (log_records (filter_map h bs))
    front None = refl
    front (Some x) = keyed-cons key x (filter_map h bs)

pub turned : (key : Key) (p : KeyRecord → Bool) (bs new : Batches) → keyed key (log_records new) ≡ filter p (keyed key (log_records bs)) → records_in key new ≡ filter p (records_in key bs)
turned key p bs new e = ap reverse e ∙ sym (filter-reverse p (keyed key (log_records bs)))

-- ---- keys

same_keys : (x y : Key) → equal_keys x y ≡ true → x ≡ y
same_keys None None e = refl
same_keys None (Some y) e = absurd (true≢false (sym e))
same_keys (Some x) None e = absurd (true≢false (sym e))
same_keys (Some x) (Some y) e = ap (λ (k : List ℕ). Some k) (exact x y e)

pub key_of : (key : Key) (x : LogRecord) → has_key key x ≡ true → x.1.key ≡ key
key_of key x e = same_keys x.1.key key e

-- ---- what supersedes a record

-- there is a later record of the key below the bound
abbrev pub has_later : (o u : ℤ) → KeyRecord → Bool
has_later o u y = int_lt o y.offset && int_lt y.offset u

record_below : (o u q : ℤ) (k : Bool) → q <ℤ u → (int_lt o q && k) ≡ (k && (int_lt o q && int_lt q u))
record_below o u q k less = grind (arith, ints, less)

record_above : (o u q : ℤ) (k : Bool) → u ≤ℤ q → false ≡ (k && (int_lt o q && int_lt q u))
record_above o u q k le = grind (arith, ints, le)

module _ (key : Key) (x : LogRecord) (own : x.1.key ≡ key) (u : ℤ) where
  later_below : (b : BatchValue) (rs : List RecordValue) → last_offset b <ℤ u → AllByRecursion (IsInSpan b) rs
      → AllByRecursion (λ y. (int_lt x.0 y.0 && same_key y.1 x.1) ≡ (has_key key y && has_later x.0 u (key_record y))) (map (λ r. (offset_of b r, r)) rs)
  later_below b [] less all = tt
  later_below b (r ∷ rs) less all =
      let to : offset_of b r ≤ℤ last_offset b = all.0.1 in
      (ap (λ (k : Key). int_lt x.0 (offset_of b r) && equal_keys r.key k) own ∙ record_below x.0 u (offset_of b r) (equal_keys r.key key) (omega (arith, ints, less, to)), later_below b rs less all.1)

  none_above : (b : BatchValue) (rs : List RecordValue) → u ≤ℤ first_offset b → AllByRecursion (IsInSpan b) rs
      → false ≡ list_any (λ y. has_key key y && has_later x.0 u (key_record y)) (map (λ r. (offset_of b r, r)) rs)
  none_above b [] le all = refl
  none_above b (r ∷ rs) le all =
      let from : first_offset b ≤ℤ offset_of b r = all.0.0 in
      (λ i. record_above x.0 u (offset_of b r) (equal_keys r.key key) (omega (arith, ints, le, from)) i || none_above b rs le all.1 i)

  pub later_batches : (bs : Batches) → AllByRecursion IsKeepable bs → NoneIsAcross u bs
      → list_any (λ y. int_lt x.0 y.0 && same_key y.1 x.1) (log_records (filter (is_cleanable u) bs)) ≡ list_any (λ y. has_key key y && has_later x.0 u (key_record y)) (log_records bs)
  later_batches [] keepable across = refl
  later_batches (b ∷ bs) keepable across =
      by (is_cleanable u b) refl across.0 (later_batches bs keepable.1 across.1)
      ∙ sym (list_any-append (λ y. has_key key y && has_later x.0 u (key_record y)) (placed b) (log_records bs))
      ∙ ap (list_any (λ y. has_key key y && has_later x.0 u (key_record y))) (sym (flat_map-cons placed b bs))
    where
      cleanable : is_cleanable u b ≡ true → last_offset b <ℤ u
      cleanable e = grind (arith, ints, e)

      above : is_cleanable u b ≡ false → (last_offset b <ℤ u) ⊎ (u ≤ℤ first_offset b) → u ≤ℤ first_offset b
      above e (inl less) = absurd (grind (arith, ints, e, less))
      above e (inr le) = le

      by : (t : Bool) → is_cleanable u b ≡ t → (last_offset b <ℤ u) ⊎ (u ≤ℤ first_offset b)
          → list_any (λ y. int_lt x.0 y.0 && same_key y.1 x.1) (log_records (filter (is_cleanable u) bs)) ≡ list_any (λ y. has_key key y && has_later x.0 u (key_record y)) (log_records bs)
          → list_any (λ y. int_lt x.0 y.0 && same_key y.1 x.1) (log_records (cond t (b ∷ filter (is_cleanable u) bs) (filter (is_cleanable u) bs)))
          ≡ (list_any (λ y. has_key key y && has_later x.0 u (key_record y)) (placed b) || list_any (λ y. has_key key y && has_later x.0 u (key_record y)) (log_records bs))
      by true e side ih =
          ap (list_any (λ y. int_lt x.0 y.0 && same_key y.1 x.1)) (flat_map-cons placed b (filter (is_cleanable u) bs))
          ∙ list_any-append (λ y. int_lt x.0 y.0 && same_key y.1 x.1) (placed b) (log_records (filter (is_cleanable u) bs))
          ∙ (λ i. list_any_same (λ y. int_lt x.0 y.0 && same_key y.1 x.1) (λ y. has_key key y && has_later x.0 u (key_record y)) (placed b) (later_below b b.recs (cleanable e) (records_in_span b keepable.0)) i || ih i)
      by false e side ih =
          ih ∙ ap (λ (a : Bool). a || list_any (λ y. has_key key y && has_later x.0 u (key_record y)) (log_records bs)) (none_above b b.recs (above e side) (records_in_span b keepable.0))
