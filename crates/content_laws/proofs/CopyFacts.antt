-- What follows of a copy of a log: it has seen whole batches, and its records are the log's.
use Rattle.std.proofs.Common.{◌≡◌, ℕ, ◌+◌, ℤ, pos, ◌+ℤ◌, Bool, true, false, cond, ◌⊎◌, inl, inr, List, [], ◌∷◌, length, Option, Some, None, refl, sym, ap, subst, ◌∙◌, arith}
use Rattle.std.specs.Prelude.{◌≤ℤ◌, ◌<ℤ◌}
use Rattle.std.specs.List.{filter, AllByRecursion}
use Rattle.std.specs.Option.{option_map}
use Rattle.std.specs.Int.{int_max}
use Rattle.std.proofs.lemmas.Int.{ints, clamps}
use Rattle.batch_codec.specs.Values.{RecordValue, BatchValue}
use Rattle.batch_codec.specs.Offsets.{first_offset, last_offset, SpansRise}
use Rattle.cover_ranges.specs.Runs.{covers, has_all}
use Rattle.cover_ranges.proofs.RunEnds.{has_all_covers}
use Rattle.content.specs.ByOffset.{look_up}
use Rattle.content.specs.Records.{LogRecord, log_records, record_at, equal_keys, IsKeepable}
use Rattle.content.specs.Table.{table_within}
use Rattle.content.specs.Content.{Content, IsContent, HasSeenNone, has_seen_all, shown_table}
use Rattle.content.specs.Logs.{IsPlainFrom, IsPlainLog, is_inside, IsLatest}
use Rattle.content.specs.Copies.{IsCopy, IsDeadTombstone}
use Rattle.content_laws.proofs.ByOffset.{look_up-offset, look_up-filter_offset, rises-filter}
use Rattle.content_laws.proofs.Batches.{record_from, placed_rises}
use Rattle.content_laws.proofs.Tables.{Bytes, offset_in_log, has_key, key_is, value_of, IsLatestIn, same_table}
use Rattle.content_laws.proofs.PlainLogs.{Batches, IsIn, IsOver, span_of, log_one, log_batch, boundary_apart}

-- ---- a plain log as a list of batches

pub plain_spans : (n : ℕ) (log : Batches) → IsPlainFrom n log → SpansRise (pos n) log
plain_spans n [] plain = tt
plain_spans n (b ∷ bs) plain =
    let first : first_offset b ≡ pos n = plain.1 in
    let next : last_offset b +ℤ pos 1 ≡ first_offset b +ℤ pos (length b.recs) = (span_of b plain.0).1 in
    let same : pos (n + length b.recs) ≡ last_offset b +ℤ pos 1 = omega (arith, ints) in
    (omega (arith, ints), subst (λ (o : ℤ). SpansRise o bs) same (plain_spans (n + length b.recs) bs plain.2))

pub plain_keepable : (n : ℕ) (log : Batches) → IsPlainFrom n log → AllByRecursion IsKeepable log
plain_keepable n [] plain = tt
plain_keepable n (b ∷ bs) plain = ((plain.0.writable, plain.0.keys), plain_keepable (n + length b.recs) bs plain.2)

-- ---- a record, by its offset

pub record_of_look_up : (o : ℤ) (bs : Batches) (x : LogRecord) → look_up offset_in_log o (log_records bs) ≡ Some x → record_at bs o ≡ Some x.1
record_of_look_up o bs x e = ap (option_map (λ (y : LogRecord). y.1)) e

pub look_up_of_record : (o : ℤ) (bs : Batches) (r : RecordValue) → record_at bs o ≡ Some r → look_up offset_in_log o (log_records bs) ≡ Some (o, r)
look_up_of_record o bs r e = by (look_up offset_in_log o (log_records bs)) refl e
  where
    by : (z : Option LogRecord) → look_up offset_in_log o (log_records bs) ≡ z → option_map (λ (y : LogRecord). y.1) z ≡ Some r → look_up offset_in_log o (log_records bs) ≡ Some (o, r)
    by None f g = absurd cc
    by (Some y) f g =
        let at : y.0 ≡ o = look_up-offset offset_in_log o (log_records bs) y f in
        let value : y.1 ≡ r = cc in
        f ∙ (λ i. Some (at i, value i))

module _ (c : Content) (log : Batches) (content : IsContent c) (plain : IsPlainLog log) (copy : IsCopy c log) where
  -- ---- whole batches were seen

  pub covered_whole : (o : ℤ) (y : BatchValue) → IsOver log o y → covers c.cover o ≡ is_inside c.cover y
  covered_whole o y over = by (covers c.cover o) (is_inside c.cover y) refl refl
    where
      seen_whole : covers c.cover o ≡ true → is_inside c.cover y ≡ true
      seen_whole e =
          let seen = copy.seen_batches o e in
          let same : seen.batch ≡ y = log_one 0 log o seen.batch y plain (record { there = seen.of_log; from = seen.has_offset.0; to = seen.has_offset.1 }) over in
          subst (λ (z : BatchValue). is_inside c.cover z ≡ true) same seen.all_seen

      by : (a b : Bool) → covers c.cover o ≡ a → is_inside c.cover y ≡ b → a ≡ b
      by true b e f = sym (seen_whole e) ∙ f
      by false true e f = sym e ∙ has_all_covers c.cover (first_offset y) (last_offset y) f o over.from over.to
      by false false e f = refl

  pub first_over : (y : BatchValue) → IsIn log y → IsOver log (first_offset y) y
  first_over y there = record { there = there; from = omega (arith, ints); to = (span_of y (log_batch 0 log y plain there)).0 }

  pub from_start : (y : BatchValue) → IsIn log y → is_inside c.cover y ≡ true → c.start ≤ℤ first_offset y
  from_start y there inside = content.above (first_offset y) (covered_whole (first_offset y) y (first_over y there) ∙ inside)

  -- of each of the log's batches all was seen, or nothing
  pub all_or_none : (y : BatchValue) → IsIn log y → (has_seen_all c y ≡ true) ⊎ HasSeenNone c y
  all_or_none y there = side (boundary_apart log c.start y plain copy.boundary there)
    where
      inside : c.start ≤ℤ first_offset y → (b : Bool) → is_inside c.cover y ≡ b → (has_seen_all c y ≡ true) ⊎ HasSeenNone c y
      inside least true e = let same : int_max c.start (first_offset y) ≡ first_offset y = omega (arith, ints, clamps) in
          inl (ap (λ (o : ℤ). has_all c.cover o (last_offset y)) same ∙ e)
      inside least false e = inr (λ o from to. (omega (arith, ints), covered_whole o y (record { there = there; from = from; to = to }) ∙ e))

      side : (c.start ≤ℤ first_offset y) ⊎ (last_offset y <ℤ c.start) → (has_seen_all c y ≡ true) ⊎ HasSeenNone c y
      side (inl least) = inside least (is_inside c.cover y) refl
      side (inr below) =
          let less : last_offset y <ℤ int_max c.start (first_offset y) = omega (arith, ints, clamps) in
          inl (grind (arith, ints, less))

  -- ---- held records

  pub held_covered : (o : ℤ) (r : RecordValue) → record_at c.kept o ≡ Some r → covers c.cover o ≡ true
  held_covered o r e =
      let has = record_from c.start o c.kept r content.disjoint content.keepable e in
      content.inside (first_offset has.batch) o has.batch has.there has.from has.to

  -- ---- the table

  seen_records : List LogRecord
  seen_records = filter (λ x. covers c.cover x.0) (log_records log)

  look_up_seen : (o : ℤ) → look_up offset_in_log o seen_records ≡ cond (covers c.cover o) (look_up offset_in_log o (log_records log)) None
  unfolding seen_records
  look_up_seen o = look_up-filter_offset offset_in_log (covers c.cover) o (log_records log)

  seen_of : (o : ℤ) (x : LogRecord) → look_up offset_in_log o seen_records ≡ Some x → (covers c.cover o ≡ true) × (look_up offset_in_log o (log_records log) ≡ Some x)
  seen_of o x e = by (covers c.cover o) refl (sym (look_up_seen o) ∙ e)
    where
      by : (b : Bool) → covers c.cover o ≡ b → cond b (look_up offset_in_log o (log_records log)) None ≡ Some x → (covers c.cover o ≡ true) × (look_up offset_in_log o (log_records log) ≡ Some x)
      by true f g = (f, g)
      by false f g = absurd cc

  of_seen : (o : ℤ) (x : LogRecord) → covers c.cover o ≡ true → look_up offset_in_log o (log_records log) ≡ Some x → look_up offset_in_log o seen_records ≡ Some x
  of_seen o x f g = look_up_seen o ∙ ap (λ (b : Bool). cond b (look_up offset_in_log o (log_records log)) None) f ∙ g

  held_seen : (o : ℤ) (x : LogRecord) → look_up offset_in_log o (log_records c.kept) ≡ Some x → look_up offset_in_log o seen_records ≡ Some x
  held_seen o x e =
      let held = record_of_look_up o c.kept x e in
      let at : x.0 ≡ o = look_up-offset offset_in_log o (log_records c.kept) x e in
      of_seen o x (held_covered o x.1 held) (look_up_of_record o log x.1 (copy.records o x.1 held) ∙ (λ i. Some (sym at i, x.1)))

  latest_is : (k : Bytes) (x : LogRecord) → IsLatestIn k seen_records x → (look_up offset_in_log x.0 (log_records c.kept) ≡ Some x)
      ⊎ ((value_of x ≡ None) × ((o : ℤ) (y : LogRecord) → look_up offset_in_log o (log_records c.kept) ≡ Some y → has_key k y ≡ false))
  latest_is k x is = by (copy.latest x.0 x.1 (record_of_look_up x.0 log x here.1) here.0 last)
    where
      here : (covers c.cover x.0 ≡ true) × (look_up offset_in_log x.0 (log_records log) ≡ Some x)
      here = seen_of x.0 x is.here

      key : x.1.key ≡ Some k
      key = key_is k x.1.key is.own

      last : IsLatest log c.cover x.0 x.1
      last q s there seen same = is.last (q, s) (of_seen q (q, s) seen (look_up_of_record q log s there)) (ap (equal_keys s.key) (sym key) ∙ same)

      by : (record_at c.kept x.0 ≡ Some x.1) ⊎ IsDeadTombstone c x.0 x.1 → (look_up offset_in_log x.0 (log_records c.kept) ≡ Some x)
          ⊎ ((value_of x ≡ None) × ((o : ℤ) (y : LogRecord) → look_up offset_in_log o (log_records c.kept) ≡ Some y → has_key k y ≡ false))
      by (inl held) = inl (look_up_of_record x.0 c.kept x.1 held)
      by (inr dead) = inr (dead.0, λ o y e. ap (equal_keys y.1.key) (sym key) ∙ dead.2 o y.1 (record_of_look_up o c.kept y e))

  pub shown_is_table : shown_table c ≡ table_within (covers c.cover) (log_records log)
  unfolding seen_records
  shown_is_table = same_table (pos 0) c.start seen_records (log_records c.kept)
      (rises-filter offset_in_log (λ x. covers c.cover x.0) (pos 0) (log_records log) (placed_rises (pos 0) log (plain_spans 0 log plain) (plain_keepable 0 log plain)))
      (placed_rises c.start c.kept content.disjoint content.keepable)
      (record { of_these = held_seen; has_latest = latest_is })
