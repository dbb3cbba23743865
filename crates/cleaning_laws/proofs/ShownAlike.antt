-- Copies of one log that have seen the same offsets show the same records, in the same order.
use Rattle.std.proofs.Common.{◌≡◌, ℤ, pos, Bool, true, false, cond, ◌⊎◌, inl, inr, List, [], ◌∷◌, ◌++◌, map, Option, Some, None, refl, sym, ap, subst, ◌∙◌, true≢false, arith}
use Rattle.std.specs.Prelude.{◌≤ℤ◌, is_some, IsSome}
use Rattle.std.specs.List.{filter, AllByRecursion}
use Rattle.std.proofs.lemmas.Slice.Eq.{bytes_eq-Decides}
use Rattle.std.proofs.lemmas.List.Concat.{flat_map-cons}
use Rattle.std.proofs.lemmas.Int.{ints}
use Rattle.batch_codec.specs.Values.{RecordValue, BatchValue}
use Rattle.batch_codec.specs.Offsets.{offset_of}
use Rattle.cover_ranges.specs.Runs.{Runs, covers}
use Rattle.content.specs.ByOffset.{look_up, Rises}
use Rattle.content.specs.Content.{Content, IsContent}
use Rattle.content.specs.Records.{LogRecord, log_records, record_at, equal_keys, same_key, IsKeepable}
use Rattle.content.specs.Logs.{IsPlainLog, IsLatest}
use Rattle.content.specs.Copies.{IsCopy, IsDeadTombstone}
use Rattle.content_laws.proofs.ByOffset.{look_up-filter_offset, rises-filter, all_at}
use Rattle.content_laws.proofs.Batches.{placed_rises}
use Rattle.content_laws.proofs.CopyFacts.{plain_spans, plain_keepable, record_of_look_up, look_up_of_record, held_covered}
use Rattle.content_laws.proofs.Tables.{Bytes, offset_in_log, has_key, key_is, value_of, latest, IsLatestIn, latest_none, latest_some}
use Rattle.group_offsets.specs.Groups.{shown_records}
use Rattle.cleaning_laws.proofs.ShownRecords.{IsShown, same_shown}

-- ---- each record has a key

abbrev HasKey : LogRecord → Type 0
HasKey x = IsSome x.1.key

keys_of_both : (xs ys : List LogRecord) → AllByRecursion HasKey xs → AllByRecursion HasKey ys → AllByRecursion HasKey (xs ++ ys)
keys_of_both [] ys all more = more
keys_of_both (x ∷ xs) ys all more = (all.0, keys_of_both xs ys all.1 more)

keys_of_batch : (b : BatchValue) (rs : List RecordValue) → AllByRecursion (λ r. IsSome r.key) rs → AllByRecursion HasKey (map (λ (r : RecordValue). (offset_of b r, r)) rs)
keys_of_batch b [] all = tt
keys_of_batch b (r ∷ rs) all = (all.0, keys_of_batch b rs all.1)

keys_of : (bs : List BatchValue) → AllByRecursion IsKeepable bs → AllByRecursion HasKey (log_records bs)
keys_of [] all = tt
keys_of (b ∷ bs) all =
    subst (AllByRecursion HasKey) (sym (flat_map-cons (λ (b : BatchValue). map (λ (r : RecordValue). (offset_of b r, r)) b.recs) b bs))
    (keys_of_both (map (λ (r : RecordValue). (offset_of b r, r)) b.recs) (log_records bs) (keys_of_batch b b.recs all.0.1) (keys_of bs all.1))

key_there : (key : Option Bytes) → IsSome key → (k : Bytes) × (key ≡ Some k)
key_there None is = absurd (true≢false (sym is))
key_there (Some k) is = (k, refl)

own_key : (k : Bytes) → equal_keys (Some k) (Some k) ≡ true
own_key k = (bytes_eq-Decides k k).1 refl

-- ---- the records that a copy has seen

abbrev pub seen_records : Runs → List BatchValue → List LogRecord
seen_records runs log = filter (λ x. covers runs x.0) (log_records log)

module _ (c : Content) (log : List BatchValue) (content : IsContent c) (plain : IsPlainLog log) (copy : IsCopy c log) where
  abbrev seen : List LogRecord
  seen = seen_records c.cover log

  abbrev held : List LogRecord
  held = log_records c.kept

  log_rises : Rises offset_in_log (pos 0) (log_records log)
  log_rises = placed_rises (pos 0) log (plain_spans 0 log plain) (plain_keepable 0 log plain)

  seen_rises : Rises offset_in_log (pos 0) (seen_records c.cover log)
  seen_rises = rises-filter offset_in_log (λ x. covers c.cover x.0) (pos 0) (log_records log) log_rises

  held_rises : Rises offset_in_log c.start (log_records c.kept)
  held_rises = placed_rises c.start c.kept content.disjoint content.keepable

  look_up_seen : (o : ℤ) → look_up offset_in_log o (seen_records c.cover log) ≡ cond (covers c.cover o) (look_up offset_in_log o (log_records log)) None
  look_up_seen o = look_up-filter_offset offset_in_log (covers c.cover) o (log_records log)

  seen_in : (o : ℤ) (x : LogRecord) → look_up offset_in_log o (seen_records c.cover log) ≡ Some x → (covers c.cover o ≡ true) × (look_up offset_in_log o (log_records log) ≡ Some x)
  seen_in o x e = by (covers c.cover o) refl (sym (look_up_seen o) ∙ e)
    where
      by : (b : Bool) → covers c.cover o ≡ b → cond b (look_up offset_in_log o (log_records log)) None ≡ Some x → (covers c.cover o ≡ true) × (look_up offset_in_log o (log_records log) ≡ Some x)
      by true f g = (f, g)
      by false f g = absurd cc

  in_seen : (o : ℤ) (x : LogRecord) → covers c.cover o ≡ true → look_up offset_in_log o (log_records log) ≡ Some x → look_up offset_in_log o (seen_records c.cover log) ≡ Some x
  in_seen o x f g = look_up_seen o ∙ ap (λ (b : Bool). cond b (look_up offset_in_log o (log_records log)) None) f ∙ g

  -- what is held was seen
  held_seen : (x : LogRecord) → look_up offset_in_log x.0 (log_records c.kept) ≡ Some x → look_up offset_in_log x.0 (seen_records c.cover log) ≡ Some x
  held_seen x e =
      let there = record_of_look_up x.0 c.kept x e in
      in_seen x.0 x (held_covered c log content plain copy x.0 x.1 there) (look_up_of_record x.0 log x.1 (copy.records x.0 x.1 there))

  -- the latest record of a key is held, or it is null and no record of the key is
  latest_held : (k : Bytes) (x : LogRecord) → IsLatestIn k (seen_records c.cover log) x → (look_up offset_in_log x.0 (log_records c.kept) ≡ Some x)
      ⊎ ((value_of x ≡ None) × ((y : LogRecord) → look_up offset_in_log y.0 (log_records c.kept) ≡ Some y → has_key k y ≡ false))
  latest_held k x is = by (copy.latest x.0 x.1 (record_of_look_up x.0 log x here.1) here.0 last)
    where
      here : (covers c.cover x.0 ≡ true) × (look_up offset_in_log x.0 (log_records log) ≡ Some x)
      here = seen_in x.0 x is.here

      key : x.1.key ≡ Some k
      key = key_is k x.1.key is.own

      last : IsLatest log c.cover x.0 x.1
      last q s there covered same = is.last (q, s) (in_seen q (q, s) covered (look_up_of_record q log s there)) (ap (equal_keys s.key) (sym key) ∙ same)

      by : (record_at c.kept x.0 ≡ Some x.1) ⊎ IsDeadTombstone c x.0 x.1 → (look_up offset_in_log x.0 (log_records c.kept) ≡ Some x)
          ⊎ ((value_of x ≡ None) × ((y : LogRecord) → look_up offset_in_log y.0 (log_records c.kept) ≡ Some y → has_key k y ≡ false))
      by (inl there) = inl (look_up_of_record x.0 c.kept x.1 there)
      by (inr dead) = inr (dead.0, λ y e. ap (equal_keys y.1.key) (sym key) ∙ dead.2 y.0 y.1 (record_of_look_up y.0 c.kept y e))

  -- the key of a record that was seen
  seen_key : (x : LogRecord) → look_up offset_in_log x.0 (seen_records c.cover log) ≡ Some x → (k : Bytes) × (x.1.key ≡ Some k)
  seen_key x e = key_there x.1.key (all_at offset_in_log HasKey x.0 (log_records log) x (keys_of log (plain_keepable 0 log plain)) (seen_in x.0 x e).1)

  has_own : (x : LogRecord) (k : Bytes) → x.1.key ≡ Some k → has_key k x ≡ true
  has_own x k key = ap (λ (o : Option Bytes). equal_keys o (Some k)) key ∙ own_key k

  same_has : (x y : LogRecord) (k : Bytes) → x.1.key ≡ Some k → same_key y.1 x.1 ≡ has_key k y
  same_has x y k key = ap (equal_keys y.1.key) key

  -- what it shows of what it holds, it shows of what it has seen
  held_shown : (x : LogRecord) → IsShown (log_records c.kept) x → IsShown (seen_records c.cover log) x
  held_shown x is = record {
    here = held_seen x is.here;
    value = is.value;
    last = λ y e same. by y e (sym (same_has x y key.0 key.1) ∙ same) (latest key.0 (seen_records c.cover log)) refl;
  }
    where
      key : (k : Bytes) × (x.1.key ≡ Some k)
      key = seen_key x (held_seen x is.here)

      most : (l : LogRecord) → IsLatestIn key.0 (seen_records c.cover log) l → (look_up offset_in_log l.0 (log_records c.kept) ≡ Some l)
          ⊎ ((value_of l ≡ None) × ((y : LogRecord) → look_up offset_in_log y.0 (log_records c.kept) ≡ Some y → has_key key.0 y ≡ false)) → l.0 ≤ℤ x.0
      most l late (inl there) = is.last l there (same_has x l key.0 key.1 ∙ late.own)
      most l late (inr dead) = absurd (true≢false (sym (has_own x key.0 key.1) ∙ dead.1 x is.here))

      by : (y : LogRecord) → look_up offset_in_log y.0 (seen_records c.cover log) ≡ Some y → has_key key.0 y ≡ true → (o : Option LogRecord) → latest key.0 (seen_records c.cover log) ≡ o → y.0 ≤ℤ x.0
      by y e own None f = absurd (true≢false (sym own ∙ latest_none key.0 (seen_records c.cover log) f y.0 y e))
      by y e own (Some l) f =
          let late = latest_some key.0 (pos 0) (seen_records c.cover log) l seen_rises f in
          let first : y.0 ≤ℤ l.0 = late.last y e own in
          let second : l.0 ≤ℤ x.0 = most l late (latest_held key.0 l late) in
          omega (arith, ints, first, second)

  some_value : (value : Option Bytes) → is_some value ≡ true → value ≡ None → ⊥
  some_value None e none = true≢false (sym e)
  some_value (Some v) e none = absurd cc

  -- and the other way round
  seen_shown : (x : LogRecord) → IsShown (seen_records c.cover log) x → IsShown (log_records c.kept) x
  seen_shown x is = record {
    here = by (latest_held key.0 x late);
    value = is.value;
    last = λ y e same. is.last y (held_seen y e) same;
  }
    where
      key : (k : Bytes) × (x.1.key ≡ Some k)
      key = seen_key x is.here

      late : IsLatestIn key.0 (seen_records c.cover log) x
      late = record { here = is.here; own = has_own x key.0 key.1; last = λ y e own. is.last y e (same_has x y key.0 key.1 ∙ own) }

      by : (look_up offset_in_log x.0 (log_records c.kept) ≡ Some x) ⊎ ((value_of x ≡ None) × ((y : LogRecord) → look_up offset_in_log y.0 (log_records c.kept) ≡ Some y → has_key key.0 y ≡ false))
          → look_up offset_in_log x.0 (log_records c.kept) ≡ Some x
      by (inl there) = there
      by (inr dead) = absurd (some_value x.1.value is.value dead.0)

  pub shown_of_copy : shown_records (log_records c.kept) ≡ shown_records (seen_records c.cover log)
  shown_of_copy = same_shown c.start (pos 0) (log_records c.kept) (seen_records c.cover log) held_rises seen_rises held_shown seen_shown
