-- A batch of the log more: a copy of the log stays one. The batch's span was wholly unseen, so that
-- what the batch holds is the log's, and all else is as it was.
use Rattle.std.proofs.Common.{◌≡◌, ℤ, pos, ◌-ℤ◌, Bool, true, false, cond, ◌||◌, ◌⊎◌, inl, inr, Some, refl, sym, ap, subst, ◌∙◌, true≢false, arith}
use Rattle.std.specs.Prelude.{◌≤ℤ◌, IsSome, if◌then◌else◌}
use Rattle.std.specs.Option.{option_and_then}
use Rattle.std.specs.Ordering.{int_eq}
use Rattle.std.proofs.lemmas.Int.{ints}
use Rattle.batch_codec.specs.Values.{RecordValue, BatchValue}
use Rattle.batch_codec.specs.Offsets.{first_offset, last_offset}
use Rattle.cover_ranges.specs.Runs.{covers, with_range, is_within}
use Rattle.cover_ranges.proofs.RunSets.{range_covers}
use Rattle.cover_ranges.proofs.RunEnds.{has_all_covers, covers_has_all}
use Rattle.content.specs.ByOffset.{look_up}
use Rattle.content.specs.Records.{record_at, record_at_delta, same_key}
use Rattle.content.specs.Windows.{is_in_window}
use Rattle.content.specs.Content.{Content, IsContent, with_batch, HasSeenNone}
use Rattle.content.specs.Logs.{IsPlainLog, is_inside, heads_inside, IsLatest}
use Rattle.content.specs.Copies.{IsSeenBatch, IsCopy, IsDeadTombstone}
use Rattle.content_laws.proofs.ByOffset.{look_up-put}
use Rattle.content_laws.proofs.Batches.{HasRecord, record_from, record_in}
use Rattle.content_laws.proofs.PlainLogs.{Batches, IsIn, IsOver, log_one, log_batch, at_base, span_of}
use Rattle.content_laws.proofs.CopyFacts.{covered_whole, held_covered}
use Rattle.content_laws.proofs.CopyParts.{record_of_part, record_of_log, more_cover, inside_more}

module _ (c : Content) (b : BatchValue) (log : Batches) (content : IsContent c) (plain : IsPlainLog log) (copy : IsCopy c log)
    (in_log : look_up first_offset (first_offset b) log ≡ Some b) (none : HasSeenNone c b) (new : IsContent (with_batch c b)) where
  n : Content
  n = with_batch c b

  cover_is : (o : ℤ) → covers (with_range (first_offset b) (last_offset b) c.cover) o ≡ (covers c.cover o || is_within o (first_offset b, last_offset b))
  cover_is o = range_covers (first_offset b) (last_offset b) c.cover o

  more : (o : ℤ) → covers c.cover o ≡ true → covers (with_batch c b).cover o ≡ true
  more o e = cover_is o ∙ grind (arith, e)

  kept_is : (base : ℤ) → look_up first_offset base (with_batch c b).kept ≡ (if int_eq (first_offset b) base then Some b else look_up first_offset base c.kept)
  kept_is base = look_up-put first_offset base b c.kept

  span : first_offset b ≤ℤ last_offset b
  span = (span_of b (log_batch 0 log b plain in_log)).0

  -- a batch that is covered now is this one, or was before
  old_or_new : (o : ℤ) → covers (with_batch c b).cover o ≡ true → (covers c.cover o ≡ true) ⊎ ((first_offset b ≤ℤ o) × (o ≤ℤ last_offset b))
  old_or_new o e = by (covers c.cover o) (is_within o (first_offset b, last_offset b)) refl refl (sym (cover_is o) ∙ e)
    where
      by : (p q : Bool) → covers c.cover o ≡ p → is_within o (first_offset b, last_offset b) ≡ q → (covers c.cover o || is_within o (first_offset b, last_offset b)) ≡ true → (covers c.cover o ≡ true) ⊎ ((first_offset b ≤ℤ o) × (o ≤ℤ last_offset b))
      by true q f g h = inl f
      by false true f g h = inr (grind (arith, ints), grind (arith, ints))
      by false false f g h = absurd (true≢false (sym h ∙ grind (arith, f, g)))

  new_covered : (o : ℤ) → first_offset b ≤ℤ o → o ≤ℤ last_offset b → covers (with_batch c b).cover o ≡ true
  new_covered o from to = cover_is o ∙ grind (arith, ints)

  new_inside : is_inside (with_batch c b).cover b ≡ true
  new_inside = covers_has_all (with_batch c b).cover (first_offset b) (last_offset b) new.canonical new_covered

  -- ---- records

  in_c : (z : BatchValue) (base : ℤ) → look_up first_offset base (with_batch c b).kept ≡ Some z → (z ≡ b) ⊎ (look_up first_offset base c.kept ≡ Some z)
  in_c z base e = by (int_eq (first_offset b) base) (sym (kept_is base) ∙ e)
    where
      by : (t : Bool) → cond t (Some b) (look_up first_offset base c.kept) ≡ Some z → (z ≡ b) ⊎ (look_up first_offset base c.kept ≡ Some z)
      by true f = inl cc
      by false f = inr f

  over_b : (o : ℤ) → first_offset b ≤ℤ o → o ≤ℤ last_offset b → IsOver log o b
  over_b o from to = record { there = in_log; from = from; to = to }

  -- what is held now is the log's record, in the new span, or was held before
  held_now : (o : ℤ) (r : RecordValue) → record_at (with_batch c b).kept o ≡ Some r → ((first_offset b ≤ℤ o) × (o ≤ℤ last_offset b) × (record_at log o ≡ Some r)) ⊎ (record_at c.kept o ≡ Some r)
  held_now o r e = by (in_c has.batch (first_offset has.batch) has.there)
    where
      has : HasRecord (with_batch c b).kept o r
      has = record_from c.start o (with_batch c b).kept r new.disjoint new.keepable e

      by : (has.batch ≡ b) ⊎ (look_up first_offset (first_offset has.batch) c.kept ≡ Some has.batch) → ((first_offset b ≤ℤ o) × (o ≤ℤ last_offset b) × (record_at log o ≡ Some r)) ⊎ (record_at c.kept o ≡ Some r)
      by (inl same) =
          let from : first_offset b ≤ℤ o = subst (λ (z : BatchValue). first_offset z ≤ℤ o) same has.from in
          let to : o ≤ℤ last_offset b = subst (λ (z : BatchValue). o ≤ℤ last_offset z) same has.to in
          let here : record_at_delta (o -ℤ first_offset b) b ≡ Some r = subst (λ (z : BatchValue). record_at_delta (o -ℤ first_offset z) z ≡ Some r) same has.here in
          inl (from, to, record_of_log log o b plain (over_b o from to) ∙ here)
      by (inr old) = inr (record_in c.start (first_offset has.batch) o c.kept has.batch content.disjoint content.keepable old has.from has.to ∙ has.here)

  heads_now : (base : ℤ) (z : BatchValue) → look_up first_offset base (with_batch c b).kept ≡ Some z → (y : BatchValue) × (look_up first_offset base log ≡ Some y) × (y.head ≡ z.head)
  heads_now base z e = by (int_eq (first_offset b) base) refl (sym (kept_is base) ∙ e)
    where
      by : (t : Bool) → int_eq (first_offset b) base ≡ t → cond t (Some b) (look_up first_offset base c.kept) ≡ Some z → (y : BatchValue) × (look_up first_offset base log ≡ Some y) × (y.head ≡ z.head)
      by true is f =
          let same : first_offset b ≡ base = grind (arith, ints) in
          let batch : b ≡ z = cc in
          (b, subst (λ (o : ℤ). look_up first_offset o log ≡ Some b) same in_log, ap (λ (x : BatchValue). x.head) batch)
      by false is f = copy.heads base z f

  -- in the new span the log's record is held
  holds_new : (o : ℤ) (r : RecordValue) → first_offset b ≤ℤ o → o ≤ℤ last_offset b → record_at log o ≡ Some r → record_at (with_batch c b).kept o ≡ Some r
  holds_new o r from to e =
      let there : look_up first_offset (first_offset b) (with_batch c b).kept ≡ Some b = kept_is (first_offset b) ∙ grind (arith, ints) in
      record_of_part log c.start (with_batch c b).kept o b plain new.disjoint new.keepable heads_now (over_b o from to) ∙ ap (option_and_then (record_at_delta (o -ℤ first_offset b))) there
      ∙ sym (record_of_log log o b plain (over_b o from to)) ∙ e

  -- what was held before is held
  holds_old : (o : ℤ) (r : RecordValue) → record_at c.kept o ≡ Some r → record_at (with_batch c b).kept o ≡ Some r
  holds_old o r e = by (int_eq (first_offset b) (first_offset has.batch)) refl
    where
      has : HasRecord c.kept o r
      has = record_from c.start o c.kept r content.disjoint content.keepable e

      covered : covers c.cover o ≡ true
      covered = held_covered c log content plain copy o r e

      outside : first_offset b ≡ first_offset has.batch → ⊥
      outside same =
          let first : first_offset has.batch ≤ℤ last_offset has.batch = omega (arith, ints, has.from, has.to) in
          let seen : covers c.cover (first_offset b) ≡ true = subst (λ (x : ℤ). covers c.cover x ≡ true) (sym same) (content.inside (first_offset has.batch) (first_offset has.batch) has.batch has.there (omega (arith, ints)) first) in
          true≢false (sym seen ∙ (none (first_offset b) (omega (arith, ints)) span).1)

      by : (t : Bool) → int_eq (first_offset b) (first_offset has.batch) ≡ t → record_at (with_batch c b).kept o ≡ Some r
      by true is = absurd (outside (grind (arith, ints)))
      by false is =
          let there : look_up first_offset (first_offset has.batch) (with_batch c b).kept ≡ Some has.batch = kept_is (first_offset has.batch) ∙ grind (arith, is, has.there) in
          record_in c.start (first_offset has.batch) o (with_batch c b).kept has.batch new.disjoint new.keepable there has.from has.to ∙ has.here

  -- ---- the clauses

  seen_batches : (o : ℤ) → covers (with_batch c b).cover o ≡ true → IsSeenBatch (with_batch c b) log o
  seen_batches o e = by (old_or_new o e)
    where
      by : (covers c.cover o ≡ true) ⊎ ((first_offset b ≤ℤ o) × (o ≤ℤ last_offset b)) → IsSeenBatch (with_batch c b) log o
      by (inl old) =
          let seen = copy.seen_batches o old in
          record { batch = seen.batch; of_log = seen.of_log; from_start = seen.from_start; has_offset = seen.has_offset; all_seen = inside_more c.cover (with_batch c b).cover seen.batch new.canonical more seen.all_seen }
      by (inr here) = record { batch = b; of_log = in_log; from_start = (none (first_offset b) (omega (arith, ints)) span).0; has_offset = here; all_seen = new_inside }

  records : (o : ℤ) (r : RecordValue) → record_at (with_batch c b).kept o ≡ Some r → record_at log o ≡ Some r
  records o r e = elim (held_now o r e) [ inl here ↦ here.2 | inr old ↦ copy.records o r old ]

  still_dead : (o : ℤ) (r : RecordValue) → IsLatest log (with_batch c b).cover o r → IsDeadTombstone c o r → IsDeadTombstone (with_batch c b) o r
  still_dead o r last dead = (dead.0, λ i from to. more i (dead.1 i from to), λ q s e. by q s (same_key s r) refl (held_now q s e))
    where
      -- a later record of the key in the new span would lie where all was seen
      clash : (q : ℤ) (s : RecordValue) → first_offset b ≤ℤ q → q ≤ℤ last_offset b → record_at log q ≡ Some s → same_key s r ≡ true → ⊥
      clash q s from to there same =
          let least : c.start ≤ℤ q = (none q from to).0 in
          let most : q ≤ℤ o = last q s there (new_covered q from to) same in
          true≢false (sym (dead.1 q least most) ∙ (none q from to).1)

      by : (q : ℤ) (s : RecordValue) (t : Bool) → same_key s r ≡ t → ((first_offset b ≤ℤ q) × (q ≤ℤ last_offset b) × (record_at log q ≡ Some s)) ⊎ (record_at c.kept q ≡ Some s) → same_key s r ≡ false
      by q s t f (inr old) = dead.2 q s old
      by q s true f (inl here) = absurd (clash q s here.0 here.1 here.2 f)
      by q s false f (inl here) = f

  latest : (o : ℤ) (r : RecordValue) → record_at log o ≡ Some r → covers (with_batch c b).cover o ≡ true → IsLatest log (with_batch c b).cover o r → (record_at (with_batch c b).kept o ≡ Some r) ⊎ IsDeadTombstone (with_batch c b) o r
  latest o r there e last = by (old_or_new o e)
    where
      by : (covers c.cover o ≡ true) ⊎ ((first_offset b ≤ℤ o) × (o ≤ℤ last_offset b)) → (record_at (with_batch c b).kept o ≡ Some r) ⊎ IsDeadTombstone (with_batch c b) o r
      by (inr here) = inl (holds_new o r here.0 here.1 there)
      by (inl old) = elim (copy.latest o r there old (λ q s in_q seen same. last q s in_q (more q seen) same)) [
        | inl held ↦ inl (holds_old o r held)
        | inr dead ↦ inr (still_dead o r last dead)
      ]

  window : (base : ℤ) (y : BatchValue) → look_up first_offset base log ≡ Some y → is_inside (with_batch c b).cover y ≡ true → pos 0 ≤ℤ y.head.producer → is_in_window (heads_inside (with_batch c b).cover log) y.head ≡ true → IsSome (look_up first_offset base (with_batch c b).kept)
  window base y there inside numbered is = by (int_eq (first_offset b) base) refl
    where
      found : (first_offset y ≡ base) × IsIn log y
      found = at_base log base y there

      covered : covers (with_batch c b).cover base ≡ true
      covered = has_all_covers (with_batch c b).cover (first_offset y) (last_offset y) inside base (omega (arith, ints, found.0)) (let s : first_offset y ≤ℤ last_offset y = (span_of y (log_batch 0 log y plain found.1)).0 in omega (arith, ints, found.0))

      over_y : IsOver log base y
      over_y = record { there = found.1; from = omega (arith, ints, found.0); to = let s : first_offset y ≤ℤ last_offset y = (span_of y (log_batch 0 log y plain found.1)).0 in omega (arith, ints, found.0) }

      old : int_eq (first_offset b) base ≡ false → (covers c.cover base ≡ true) ⊎ ((first_offset b ≤ℤ base) × (base ≤ℤ last_offset b)) → IsSome (look_up first_offset base c.kept)
      old other (inl seen) = copy.window base y there (sym (covered_whole c log content plain copy base y over_y) ∙ seen) numbered (more_cover c.cover (with_batch c b).cover log y.head new.canonical more is)
      old other (inr here) =
          let same : b ≡ y = log_one 0 log base b y plain (over_b base here.0 here.1) over_y in
          let firsts : first_offset b ≡ base = ap first_offset same ∙ found.0 in
          absurd (true≢false (sym (grind (arith, ints, firsts)) ∙ other))

      by : (t : Bool) → int_eq (first_offset b) base ≡ t → IsSome (look_up first_offset base (with_batch c b).kept)
      by true is = subst IsSome (sym (kept_is base ∙ ap (λ (t : Bool). cond t (Some b) (look_up first_offset base c.kept)) is)) refl
      by false is = subst IsSome (sym (kept_is base ∙ ap (λ (t : Bool). cond t (Some b) (look_up first_offset base c.kept)) is)) (old is (old_or_new base covered))

  pub copy_with_batch : IsCopy (with_batch c b) log
  copy_with_batch = record {
    boundary = copy.boundary;
    seen_batches = seen_batches;
    heads = heads_now;
    records = records;
    latest = latest;
    window = window;
  }
