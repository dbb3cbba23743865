-- A later start: a copy cut where its log may start stays a copy, since no batch lies across it.
use Rattle.std.proofs.Common.{◌≡◌, ℤ, pos, ◌+ℤ◌, Bool, true, false, cond, not, ◌&&◌, ◌||◌, ◌⊎◌, inl, inr, List, [], ◌∷◌, Some, None, refl, sym, ap, subst, ◌∙◌, true≢false, arith}
use Rattle.std.specs.Prelude.{◌≤ℤ◌, ◌<ℤ◌, int_lt, int_le, count_by, IsSome}
use Rattle.std.specs.List.{filter, list_all}
use Rattle.std.specs.Ordering.{int_eq}
use Rattle.std.proofs.lemmas.Int.{ints}
use Rattle.batch_codec.specs.declared.head.BatchHead.{BatchHead}
use Rattle.batch_codec.specs.Values.{RecordValue, BatchValue}
use Rattle.batch_codec.specs.Offsets.{first_offset, last_offset}
use Rattle.cover_ranges.specs.Runs.{covers, cut_below}
use Rattle.cover_ranges.proofs.RunSets.{cut_covers}
use Rattle.cover_ranges.proofs.RunEnds.{has_all_covers, covers_has_all}
use Rattle.content.specs.ByOffset.{look_up}
use Rattle.content.specs.Records.{record_at}
use Rattle.content.specs.Windows.{heads, is_later, is_in_window}
use Rattle.content.specs.Content.{Content, IsContent, cut}
use Rattle.content.specs.Logs.{IsPlainLog, IsBoundary, is_inside, heads_inside, IsLatest}
use Rattle.content.specs.Copies.{IsSeenBatch, IsCopy, IsDeadTombstone}
use Rattle.content_laws.proofs.ByOffset.{look_up-filter_offset, all_from_at}
use Rattle.content_laws.proofs.Batches.{record_from, record_in}
use Rattle.content_laws.proofs.Windows.{count-cons, filter_same}
use Rattle.content_laws.proofs.PlainLogs.{Batches, IsIn, plain-rises, log_batch, at_base, span_of, boundary_apart}

-- ---- the window of a batch from the start on doesn't ask for those before it

abbrev from_on : ℤ → BatchValue → Bool
from_on s b = int_le s (first_offset b)

count_from : (s : ℤ) (h : BatchHead) (bs : Batches) → s ≤ℤ h.base → count_by (is_later h) (heads (filter (from_on s) bs)) ≡ count_by (is_later h) (heads bs)
count_from s h [] least = refl
count_from s h (b ∷ bs) least = by (from_on s b) refl (count_from s h bs least)
  where
    by : (t : Bool) → from_on s b ≡ t → count_by (is_later h) (heads (filter (from_on s) bs)) ≡ count_by (is_later h) (heads bs) → count_by (is_later h) (heads (cond t (b ∷ filter (from_on s) bs) (filter (from_on s) bs))) ≡ count_by (is_later h) (heads (b ∷ bs))
    by true e ih = grind (arith, count-cons (is_later h) b.head (heads (filter (from_on s) bs)), count-cons (is_later h) b.head (heads bs), ih)
    by false e ih = let not_later : is_later h b.head ≡ false = grind (arith, ints) in grind (arith, count-cons (is_later h) b.head (heads bs), ih, not_later)

abbrev alike : BatchHead → BatchHead → Bool
alike h x = not (is_later h x) || int_eq x.producer_epoch h.producer_epoch

all_from : (s : ℤ) (h : BatchHead) (bs : Batches) → s ≤ℤ h.base → list_all (alike h) (heads (filter (from_on s) bs)) ≡ list_all (alike h) (heads bs)
all_from s h [] least = refl
all_from s h (b ∷ bs) least = by (from_on s b) refl (all_from s h bs least)
  where
    by : (t : Bool) → from_on s b ≡ t → list_all (alike h) (heads (filter (from_on s) bs)) ≡ list_all (alike h) (heads bs) → list_all (alike h) (heads (cond t (b ∷ filter (from_on s) bs) (filter (from_on s) bs))) ≡ list_all (alike h) (heads (b ∷ bs))
    by true e ih = ap (λ (a : Bool). alike h b.head && a) ih
    by false e ih = let not_later : is_later h b.head ≡ false = grind (arith, ints) in ih ∙ grind (arith, not_later)

in_window_from : (s : ℤ) (h : BatchHead) (bs : Batches) → s ≤ℤ h.base → is_in_window (heads (filter (from_on s) bs)) h ≡ is_in_window (heads bs) h
in_window_from s h bs least = grind (arith, count_from s h bs least, all_from s h bs least)

filter_and : (p q : BatchValue → Bool) (bs : Batches) → filter (λ b. p b && q b) bs ≡ filter p (filter q bs)
filter_and p q [] = refl
filter_and p q (b ∷ bs) = by (p b) (q b) refl refl (filter_and p q bs)
  where
    by : (t u : Bool) → p b ≡ t → q b ≡ u → filter (λ x. p x && q x) bs ≡ filter p (filter q bs) → cond (t && u) (b ∷ filter (λ x. p x && q x) bs) (filter (λ x. p x && q x) bs) ≡ filter p (cond u (b ∷ filter q bs) (filter q bs))
    by true true e f ih = grind (arith, e, ih)
    by true false e f ih = ih
    by false true e f ih = grind (arith, e, ih)
    by false false e f ih = ih

module _ (c : Content) (s : ℤ) (log : Batches) (content : IsContent c) (plain : IsPlainLog log) (copy : IsCopy c log)
    (boundary : IsBoundary log s) (least : c.start ≤ℤ s) (new : IsContent (cut s c)) where
  covered : (o : ℤ) → covers (cut_below s c.cover) o ≡ (covers c.cover o && int_le s o)
  covered o = cut_covers s c.cover o

  old_covered : (o : ℤ) → covers (cut s c).cover o ≡ true → (covers c.cover o ≡ true) × (s ≤ℤ o)
  old_covered o e = let both : (covers c.cover o && int_le s o) ≡ true = sym (covered o) ∙ e in (grind (arith, both), grind (arith, ints, both))

  new_covered : (o : ℤ) → covers c.cover o ≡ true → s ≤ℤ o → covers (cut s c).cover o ≡ true
  new_covered o e from = covered o ∙ grind (arith, ints, e, from)

  kept_is : (base : ℤ) → look_up first_offset base (cut s c).kept ≡ cond (int_le s base) (look_up first_offset base c.kept) None
  kept_is base = look_up-filter_offset first_offset (int_le s) base c.kept

  old_kept : (base : ℤ) (b : BatchValue) → look_up first_offset base (cut s c).kept ≡ Some b → (look_up first_offset base c.kept ≡ Some b) × (s ≤ℤ base)
  old_kept base b e = by (int_le s base) refl (sym (kept_is base) ∙ e)
    where
      by : (t : Bool) → int_le s base ≡ t → cond t (look_up first_offset base c.kept) None ≡ Some b → (look_up first_offset base c.kept ≡ Some b) × (s ≤ℤ base)
      by true is f = (f, grind (arith, ints))
      by false is f = absurd cc

  new_kept : (base : ℤ) (b : BatchValue) → look_up first_offset base c.kept ≡ Some b → s ≤ℤ base → look_up first_offset base (cut s c).kept ≡ Some b
  new_kept base b e from = let test : int_le s base ≡ true = grind (arith, ints) in kept_is base ∙ ap (λ (t : Bool). cond t (look_up first_offset base c.kept) None) test ∙ e

  -- a batch of the log over an offset from the start on begins there or later
  begins : (o : ℤ) (y : BatchValue) → IsIn log y → s ≤ℤ o → o ≤ℤ last_offset y → s ≤ℤ first_offset y
  begins o y there from to = by (boundary_apart log s y plain boundary there)
    where
      by : (s ≤ℤ first_offset y) ⊎ (last_offset y <ℤ s) → s ≤ℤ first_offset y
      by (inl l) = l
      by (inr l) = absurd (omega (arith, ints))

  seen_batches : (o : ℤ) → covers (cut s c).cover o ≡ true → IsSeenBatch (cut s c) log o
  seen_batches o e =
      let old = old_covered o e in
      let seen = copy.seen_batches o old.0 in
      let from : s ≤ℤ first_offset seen.batch = begins o seen.batch seen.of_log old.1 seen.has_offset.1 in
      record {
        batch = seen.batch;
        of_log = seen.of_log;
        from_start = from;
        has_offset = seen.has_offset;
        all_seen = covers_has_all (cut s c).cover (first_offset seen.batch) (last_offset seen.batch) new.canonical
            (λ i low high. new_covered i (has_all_covers c.cover (first_offset seen.batch) (last_offset seen.batch) seen.all_seen i low high) (omega (arith, ints)));
      }

  held_old : (o : ℤ) (r : RecordValue) → record_at (cut s c).kept o ≡ Some r → record_at c.kept o ≡ Some r
  held_old o r e =
      let has = record_from s o (cut s c).kept r new.disjoint new.keepable e in
      record_in c.start (first_offset has.batch) o c.kept has.batch content.disjoint content.keepable (old_kept (first_offset has.batch) has.batch has.there).0 has.from has.to ∙ has.here

  held_new : (o : ℤ) (r : RecordValue) → record_at c.kept o ≡ Some r → s ≤ℤ o → record_at (cut s c).kept o ≡ Some r
  held_new o r e from =
      let has = record_from c.start o c.kept r content.disjoint content.keepable e in
      let found = copy.heads (first_offset has.batch) has.batch has.there in
      let in_log = at_base log (first_offset has.batch) found.0 found.1 in
      let last : last_offset found.0 ≡ last_offset has.batch = ap (λ (h : BatchHead). h.base +ℤ h.last_delta) found.2 in
      let starts : s ≤ℤ first_offset found.0 = begins o found.0 in_log.1 from (omega (arith, ints, last, has.to)) in
      record_in s (first_offset has.batch) o (cut s c).kept has.batch new.disjoint new.keepable (new_kept (first_offset has.batch) has.batch has.there (omega (arith, ints, in_log.0, starts))) has.from has.to ∙ has.here

  latest : (o : ℤ) (r : RecordValue) → record_at log o ≡ Some r → covers (cut s c).cover o ≡ true → IsLatest log (cut s c).cover o r → (record_at (cut s c).kept o ≡ Some r) ⊎ IsDeadTombstone (cut s c) o r
  latest o r there e last = by (copy.latest o r there old.0 before)
    where
      old : (covers c.cover o ≡ true) × (s ≤ℤ o)
      old = old_covered o e

      before : IsLatest log c.cover o r
      before q t in_q seen same = side (int_lt q s) refl
        where
          side : (b : Bool) → int_lt q s ≡ b → q ≤ℤ o
          side true less = let from : s ≤ℤ o = old.1 in grind (arith, ints)
          side false less = last q t in_q (new_covered q seen (grind (arith, ints))) same

      by : (record_at c.kept o ≡ Some r) ⊎ IsDeadTombstone c o r → (record_at (cut s c).kept o ≡ Some r) ⊎ IsDeadTombstone (cut s c) o r
      by (inl held) = inl (held_new o r held old.1)
      by (inr dead) = inr (dead.0, λ i from to. new_covered i (dead.1 i (omega (arith, ints)) to) from, λ q t f. dead.2 q t (held_old q t f))

  -- ---- windows

  cut_inside : (y : BatchValue) → IsIn log y → is_inside (cut s c).cover y ≡ (from_on s y && is_inside c.cover y)
  cut_inside y there = by (is_inside (cut s c).cover y) (from_on s y) (is_inside c.cover y) refl refl refl
    where
      span : first_offset y ≤ℤ last_offset y
      span = (span_of y (log_batch 0 log y plain there)).0

      first_seen : is_inside (cut s c).cover y ≡ true → (covers c.cover (first_offset y) ≡ true) × (s ≤ℤ first_offset y)
      first_seen e = old_covered (first_offset y) (has_all_covers (cut s c).cover (first_offset y) (last_offset y) e (first_offset y) (omega (arith, ints)) span)

      down : is_inside (cut s c).cover y ≡ true → is_inside c.cover y ≡ true
      down e = covers_has_all c.cover (first_offset y) (last_offset y) content.canonical (λ o from to. (old_covered o (has_all_covers (cut s c).cover (first_offset y) (last_offset y) e o from to)).0)

      up : from_on s y ≡ true → is_inside c.cover y ≡ true → is_inside (cut s c).cover y ≡ true
      up starts e = let from_s : s ≤ℤ first_offset y = grind (arith, ints) in
          covers_has_all (cut s c).cover (first_offset y) (last_offset y) new.canonical (λ o from to. new_covered o (has_all_covers c.cover (first_offset y) (last_offset y) e o from to) (omega (arith, ints)))

      by : (p q t : Bool) → is_inside (cut s c).cover y ≡ p → from_on s y ≡ q → is_inside c.cover y ≡ t → p ≡ (q && t)
      by true true true e f g = refl
      by true true false e f g = absurd (true≢false (sym (down e) ∙ g))
      by true false t e f g = let starts : s ≤ℤ first_offset y = (first_seen e).1 in absurd (true≢false (sym (grind (arith, ints)) ∙ f))
      by false true true e f g = absurd (true≢false (sym (up f g) ∙ e))
      by false true false e f g = refl
      by false false t e f g = refl

  heads_are : heads_inside (cut s c).cover log ≡ heads (filter (from_on s) (filter (is_inside c.cover) log))
  heads_are = ap heads (filter_same (is_inside (cut s c).cover) (λ y. from_on s y && is_inside c.cover y) log (all_from_at first_offset (λ y. is_inside (cut s c).cover y ≡ (from_on s y && is_inside c.cover y)) (pos 0) log (plain-rises 0 log plain) cut_inside)
      ∙ filter_and (from_on s) (is_inside c.cover) log)

  window : (base : ℤ) (y : BatchValue) → look_up first_offset base log ≡ Some y → is_inside (cut s c).cover y ≡ true → pos 0 ≤ℤ y.head.producer → is_in_window (heads_inside (cut s c).cover log) y.head ≡ true → IsSome (look_up first_offset base (cut s c).kept)
  window base y there inside numbered is =
      let found = at_base log base y there in
      let both : (from_on s y && is_inside c.cover y) ≡ true = sym (cut_inside y found.1) ∙ inside in
      let starts : s ≤ℤ first_offset y = grind (arith, ints, both) in
      let old : is_inside c.cover y ≡ true = grind (arith, both) in
      let wide : is_in_window (heads_inside c.cover log) y.head ≡ true = sym (in_window_from s y.head (filter (is_inside c.cover) log) starts) ∙ subst (λ (hs : List BatchHead). is_in_window hs y.head ≡ true) heads_are is in
      let test : int_le s base ≡ true = grind (arith, ints, found.0, starts) in
      subst IsSome (sym (kept_is base ∙ ap (λ (t : Bool). cond t (look_up first_offset base c.kept) None) test)) (copy.window base y there old numbered wide)

  pub copy_of_cut : IsCopy (cut s c) log
  copy_of_cut = record {
    boundary = boundary;
    seen_batches = seen_batches;
    heads = λ base b e. copy.heads base b (old_kept base b e).0;
    records = λ o r e. copy.records o r (held_old o r e);
    latest = latest;
    window = window;
  }
