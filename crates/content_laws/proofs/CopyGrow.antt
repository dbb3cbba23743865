-- The log grows at its end: a copy of it stays one, since nothing from the old end on was seen.
use Rattle.std.proofs.Common.{◌≡◌, ℕ, ◌+◌, ℤ, pos, ◌+ℤ◌, Bool, true, false, cond, ◌⊎◌, inl, inr, List, [], ◌∷◌, ◌++◌, map, length, Option, Some, None, refl, sym, ap, subst, ◌∙◌, true≢false, arith}
use Rattle.std.specs.Prelude.{◌≤ℤ◌, ◌<ℤ◌, IsSome}
use Rattle.std.specs.List.{find, filter}
use Rattle.std.specs.Option.{option_or, option_map}
use Rattle.std.specs.Ordering.{int_eq}
use Rattle.std.proofs.lemmas.Int.{ints}
use Rattle.std.proofs.lemmas.List.{append-nil}
use Rattle.std.proofs.lemmas.List.Elements.{filter-append}
use Rattle.std.proofs.lemmas.List.Folds.{find-append}
use Rattle.std.proofs.lemmas.List.Concat.{flat_map-append}
use Rattle.batch_codec.specs.declared.head.BatchHead.{BatchHead}
use Rattle.batch_codec.specs.Values.{RecordValue, BatchValue}
use Rattle.batch_codec.specs.Offsets.{first_offset, last_offset, offset_of}
use Rattle.cover_ranges.specs.Runs.{covers}
use Rattle.cover_ranges.proofs.RunEnds.{has_all_covers}
use Rattle.content.specs.ByOffset.{look_up}
use Rattle.content.specs.Records.{LogRecord, log_records, record_at}
use Rattle.content.specs.Windows.{heads, is_in_window}
use Rattle.content.specs.Content.{Content, IsContent}
use Rattle.content.specs.Logs.{IsPlainFrom, IsPlainLog, next_offset, IsBoundary, is_inside, heads_inside, IsLatest}
use Rattle.content.specs.Copies.{IsSeenBatch, IsCopy, IsDeadTombstone}
use Rattle.content_laws.proofs.PlainLogs.{Batches, IsOver, end_from, log_one, log_batch, at_base, span_of, below_end}
use Rattle.content_laws.proofs.CopyParts.{record_of_log}

-- ---- the log without its last batch

pub plain_front : (n : ℕ) (log : Batches) (b : BatchValue) → IsPlainFrom n (log ++ b ∷ []) → IsPlainFrom n log
plain_front n [] b plain = tt
plain_front n (y ∷ ys) b plain = (plain.0, plain.1, plain_front (n + length y.recs) ys b plain.2)

-- the last batch begins at the end of those before it
pub last_base : (n : ℕ) (log : Batches) (b : BatchValue) → IsPlainFrom n (log ++ b ∷ []) → first_offset b ≡ end_from (pos n) log
last_base n [] b plain = plain.1
last_base n (y ∷ ys) b plain =
    let next : last_offset y +ℤ pos 1 ≡ first_offset y +ℤ pos (length y.recs) = (span_of y plain.0).1 in
    let first : first_offset y ≡ pos n = plain.1 in
    let same : pos (n + length y.recs) ≡ last_offset y +ℤ pos 1 = omega (arith, ints) in
    last_base (n + length y.recs) ys b plain.2 ∙ ap (λ (e : ℤ). end_from e ys) same

look_up-append : (base : ℤ) (xs ys : Batches) → look_up first_offset base (xs ++ ys) ≡ option_or (look_up first_offset base xs) (look_up first_offset base ys)
look_up-append base xs ys = find-append (λ b. int_eq (first_offset b) base) xs ys

map-or : (x y : Option LogRecord) → option_map (λ (z : LogRecord). z.1) (option_or x y) ≡ option_or (option_map (λ (z : LogRecord). z.1) x) (option_map (λ (z : LogRecord). z.1) y)
map-or None y = refl
map-or (Some x) y = refl

record_at-append : (o : ℤ) (xs ys : Batches) → record_at (xs ++ ys) o ≡ option_or (record_at xs o) (record_at ys o)
record_at-append o xs ys =
    ap (λ (rs : List LogRecord). option_map (λ (z : LogRecord). z.1) (find (λ (x : LogRecord). int_eq x.0 o) rs)) (flat_map-append (λ (b : BatchValue). map (λ (r : RecordValue). (offset_of b r, r)) b.recs) xs ys)
    ∙ ap (option_map (λ (z : LogRecord). z.1)) (find-append (λ (x : LogRecord). int_eq x.0 o) (log_records xs) (log_records ys))
    ∙ map-or (find (λ (x : LogRecord). int_eq x.0 o) (log_records xs)) (find (λ (x : LogRecord). int_eq x.0 o) (log_records ys))

some-or : {X : Type 0} (x y : Option X) (z : X) → x ≡ Some z → option_or x y ≡ Some z
some-or x y z e = ap (λ o. option_or o y) e

module _ (c : Content) (log : Batches) (b : BatchValue) (content : IsContent c) (plain : IsPlainLog (log ++ b ∷ [])) (copy : IsCopy c log) where
  front : IsPlainLog log
  front = plain_front 0 log b plain

  in_more : (base : ℤ) (y : BatchValue) → look_up first_offset base log ≡ Some y → look_up first_offset base (log ++ b ∷ []) ≡ Some y
  in_more base y e = look_up-append base log (b ∷ []) ∙ some-or (look_up first_offset base log) (look_up first_offset base (b ∷ [])) y e

  record_in_more : (o : ℤ) (r : RecordValue) → record_at log o ≡ Some r → record_at (log ++ b ∷ []) o ≡ Some r
  record_in_more o r e = record_at-append o log (b ∷ []) ∙ some-or (record_at log o) (record_at (b ∷ []) o) r e

  over_more : (o : ℤ) (y : BatchValue) → IsOver log o y → IsOver (log ++ b ∷ []) o y
  over_more o y over = record { there = in_more (first_offset y) y over.there; from = over.from; to = over.to }

  seen_over : (o : ℤ) (e : covers c.cover o ≡ true) → (y : BatchValue) × IsOver log o y
  seen_over o e = let seen = copy.seen_batches o e in (seen.batch, record { there = seen.of_log; from = seen.has_offset.0; to = seen.has_offset.1 })

  -- a batch of the longer log of which something was seen is one of the shorter log
  of_front : (o : ℤ) (y : BatchValue) → covers c.cover o ≡ true → IsOver (log ++ b ∷ []) o y → IsOver log o y
  of_front o y e over =
      let seen = seen_over o e in
      let same : seen.0 ≡ y = log_one 0 (log ++ b ∷ []) o seen.0 y plain (over_more o seen.0 seen.1) over in
      subst (IsOver log o) same seen.1

  -- the new batch was not seen
  last_at_end : first_offset b ≡ next_offset log
  last_at_end = last_base 0 log b plain

  last_in : look_up first_offset (first_offset b) (log ++ b ∷ []) ≡ Some b
  last_in = look_up-append (first_offset b) log (b ∷ []) ∙ by (look_up first_offset (first_offset b) log) refl
    where
      by : (z : Option BatchValue) → look_up first_offset (first_offset b) log ≡ z → option_or z (look_up first_offset (first_offset b) (b ∷ [])) ≡ Some b
      by None e = grind (arith, ints)
      by (Some y) e =
          let found = at_base log (first_offset b) y e in
          let span : first_offset y ≤ℤ last_offset y = (span_of y (log_batch 0 log y front found.1)).0 in
          let below : last_offset y <ℤ next_offset log = below_end 0 log y front found.1 in
          absurd (omega (arith, ints, found.0, last_at_end))

  not_inside : is_inside c.cover b ≡ false
  not_inside = by (is_inside c.cover b) refl
    where
      clash : is_inside c.cover b ≡ true → ⊥
      clash e =
          let span : first_offset b ≤ℤ last_offset b = (span_of b (log_batch 0 (log ++ b ∷ []) b plain last_in)).0 in
          let covered : covers c.cover (first_offset b) ≡ true = has_all_covers c.cover (first_offset b) (last_offset b) e (first_offset b) (omega (arith, ints)) span in
          let seen = seen_over (first_offset b) covered in
          let below : last_offset seen.0 <ℤ next_offset log = below_end 0 log seen.0 front seen.1.there in
          let within : first_offset b ≤ℤ last_offset seen.0 = seen.1.to in
          absurd (omega (arith, ints, last_at_end))

      by : (t : Bool) → is_inside c.cover b ≡ t → is_inside c.cover b ≡ false
      by true e = absurd (clash e)
      by false e = e

  heads_same : heads_inside c.cover (log ++ b ∷ []) ≡ heads_inside c.cover log
  heads_same = ap heads (filter-append (is_inside c.cover) log (b ∷ []) ∙ ap (λ (t : Bool). filter (is_inside c.cover) log ++ cond t (b ∷ []) []) not_inside ∙ append-nil (filter (is_inside c.cover) log))

  -- ---- the clauses

  boundary : IsBoundary (log ++ b ∷ []) c.start
  boundary = from copy.boundary
    where
      by : (z : Option BatchValue) → look_up first_offset c.start log ≡ z → IsSome z → IsSome (look_up first_offset c.start (log ++ b ∷ []))
      by None e is = absurd (true≢false (sym is))
      by (Some y) e is = subst IsSome (sym (in_more c.start y e)) refl

      from : IsBoundary log c.start → IsBoundary (log ++ b ∷ []) c.start
      from (inl end) = inr (subst (λ (o : ℤ). IsSome (look_up first_offset o (log ++ b ∷ []))) (last_at_end ∙ sym end) (subst IsSome (sym last_in) refl))
      from (inr some) = inr (by (look_up first_offset c.start log) refl some)

  seen_batches : (o : ℤ) → covers c.cover o ≡ true → IsSeenBatch c (log ++ b ∷ []) o
  seen_batches o e = let seen = copy.seen_batches o e in record { batch = seen.batch; of_log = in_more (first_offset seen.batch) seen.batch seen.of_log; from_start = seen.from_start; has_offset = seen.has_offset; all_seen = seen.all_seen }

  latest : (o : ℤ) (r : RecordValue) → record_at (log ++ b ∷ []) o ≡ Some r → covers c.cover o ≡ true → IsLatest (log ++ b ∷ []) c.cover o r → (record_at c.kept o ≡ Some r) ⊎ IsDeadTombstone c o r
  latest o r there e last =
      let seen = seen_over o e in
      let same : record_at log o ≡ record_at (log ++ b ∷ []) o = record_of_log log o seen.0 front seen.1 ∙ sym (record_of_log (log ++ b ∷ []) o seen.0 plain (over_more o seen.0 seen.1)) in
      copy.latest o r (same ∙ there) e (λ q s in_q covered key. last q s (record_in_more q s in_q) covered key)

  window : (base : ℤ) (y : BatchValue) → look_up first_offset base (log ++ b ∷ []) ≡ Some y → is_inside c.cover y ≡ true → pos 0 ≤ℤ y.head.producer → is_in_window (heads_inside c.cover (log ++ b ∷ [])) y.head ≡ true → IsSome (look_up first_offset base c.kept)
  window base y there inside numbered is =
      let found = at_base (log ++ b ∷ []) base y there in
      let span : first_offset y ≤ℤ last_offset y = (span_of y (log_batch 0 (log ++ b ∷ []) y plain found.1)).0 in
      let covered : covers c.cover (first_offset y) ≡ true = has_all_covers c.cover (first_offset y) (last_offset y) inside (first_offset y) (omega (arith, ints)) span in
      let old = of_front (first_offset y) y covered (record { there = found.1; from = omega (arith, ints); to = span }) in
      copy.window base y (sym (ap (λ (o : ℤ). look_up first_offset o log) found.0) ∙ old.there) inside numbered (subst (λ (hs : List BatchHead). is_in_window hs y.head ≡ true) heads_same is)

  pub copy_of_longer : IsCopy c (log ++ b ∷ [])
  copy_of_longer = record {
    boundary = boundary;
    seen_batches = seen_batches;
    heads = λ base z e. let found = copy.heads base z e in (found.0, in_more base found.0 found.1, found.2);
    records = λ o r e. record_in_more o r (copy.records o r e);
    latest = latest;
    window = window;
  }
