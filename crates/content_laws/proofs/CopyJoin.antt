-- Two copies of one log agree, and their merge is a copy of that log. A copy that lacks the log's
-- latest record of a key has seen all from the start to it, so that the key is dead in the merge too.
use Rattle.std.proofs.Common.{◌≡◌, ◌^◌, ℤ, pos, ◌+ℤ◌, ◌-ℤ◌, Bool, true, false, ◌&&◌, ◌||◌, ◌⊎◌, inl, inr, Option, Some, None, refl, sym, ap, subst, ◌∙◌, true≢false, arith}
use Rattle.std.specs.Prelude.{◌≤ℤ◌, ◌<ℤ◌, int_lt, int_le, is_some, IsSome, if◌then◌else◌}
use Rattle.std.proofs.lemmas.Int.{ints, clamps, by_lt_z}
use Rattle.batch_codec.specs.declared.head.BatchHead.{BatchHead}
use Rattle.batch_codec.specs.Values.{RecordValue, BatchValue}
use Rattle.batch_codec.specs.Offsets.{first_offset, last_offset}
use Rattle.cover_ranges.specs.Runs.{covers}
use Rattle.cover_ranges.proofs.RunEnds.{has_all_covers}
use Rattle.content.specs.ByOffset.{look_up}
use Rattle.content.specs.Records.{record_at, record_at_delta, same_key, with_common_records, IsKeepable}
use Rattle.content.specs.Windows.{is_in_window}
use Rattle.content.specs.Content.{Content, IsContent, cut}
use Rattle.content.specs.Joins.{Slot, slot_at, slot_join, batch_of_slot, greater_start, join, FitsAt, AreAlikeAt, Agree}
use Rattle.content.specs.Joins.Slot.{Unknown, Kept, Gone, Below}
use Rattle.content.specs.Logs.{IsPlainLog, IsBoundary, is_inside, heads_inside, IsLatest}
use Rattle.content.specs.Copies.{IsSeenBatch, IsCopy, IsDeadTombstone}
use Rattle.content_laws.proofs.Batches.{rec_below, rec_above, record_in, HasRecord, record_from}
use Rattle.content_laws.proofs.BatchParts.{part_head, rec_common}
use Rattle.content_laws.proofs.ByOffset.{look_up-offset}
use Rattle.content_laws.proofs.Slots.{is_seen, is_below, kept_keepable, kept_covered, slot_batch, slot_kept, slot_seen, slot_below, join_kept, join_start, join_covers}
use Rattle.content_laws.proofs.ContentSteps.{IsFrom, content_join, content_cut, join_side}
use Rattle.content_laws.proofs.JoinLaws.{join_comm_agree, cut_start, join_cut, held_in_join}
use Rattle.content_laws.proofs.PlainLogs.{Batches, IsIn, IsOver, log_one, log_batch, at_base, span_of, boundary_apart}
use Rattle.content_laws.proofs.CopyFacts.{covered_whole}
use Rattle.content_laws.proofs.CopyParts.{same_some, more_cover, inside_more}
use Rattle.content_laws.proofs.CopyCut.{copy_of_cut}

-- ---- a copy's kept batch, and the log's

-- the log's batch with a kept batch's head
record IsOfLog (log : Batches) (base : ℤ) (b : BatchValue) : Type 0 where
  batch : BatchValue
  there : look_up first_offset (first_offset batch) log ≡ Some batch
  first : first_offset batch ≡ base
  last : last_offset batch ≡ last_offset b
  head : batch.head ≡ b.head

of_log : (c : Content) (log : Batches) (base : ℤ) (b : BatchValue) → IsCopy c log → look_up first_offset base c.kept ≡ Some b → IsOfLog log base b
of_log c log base b copy e =
    let found = copy.heads base b e in
    let at = at_base log base found.0 found.1 in
    record { batch = found.0; there = at.1; first = at.0; last = ap (λ (h : BatchHead). h.base +ℤ h.last_delta) found.2; head = found.2 }

over_kept : (c : Content) (log : Batches) (base o : ℤ) (b : BatchValue) (copy : IsCopy c log) (e : look_up first_offset base c.kept ≡ Some b) → base ≤ℤ o → o ≤ℤ last_offset b → IsOver log o (of_log c log base b copy e).batch
over_kept c log base o b copy e from to =
    let y = of_log c log base b copy e in
    record { there = y.there; from = omega (arith, ints, y.first, from); to = omega (arith, ints, y.last, to) }

-- ---- two copies of one log agree

fits : (s : ℤ) (x y : Content) (log : Batches) → IsContent x → IsContent y → IsPlainLog log → IsCopy x log → IsCopy y log → IsBoundary log s → (base : ℤ) → FitsAt s x y base
fits s x y log is_x is_y plain copy_x copy_y boundary base b e = (below, same)
  where
    z : IsOfLog log base b
    z = of_log x log base b copy_x e

    below : base <ℤ s → last_offset b <ℤ s
    below less = side (boundary_apart log s z.batch plain boundary z.there)
      where
        side : (s ≤ℤ first_offset z.batch) ⊎ (last_offset z.batch <ℤ s) → last_offset b <ℤ s
        side (inl from) = absurd (omega (arith, ints, from, z.first, less))
        side (inr to) = omega (arith, ints, to, z.last)

    same : s ≤ℤ base → (o : ℤ) → base ≤ℤ o → o ≤ℤ last_offset b → covers y.cover o ≡ covers y.cover base
    same from_s o from to =
        let ends : base ≤ℤ last_offset b = omega (arith, ints) in
        covered_whole y log is_y plain copy_y o z.batch (over_kept x log base o b copy_x e from to)
        ∙ sym (covered_whole y log is_y plain copy_y base z.batch (over_kept x log base base b copy_x e (omega (arith, ints)) ends))

-- a record of a kept batch is the log's
kept_record : (c : Content) (log : Batches) (base d : ℤ) (b : BatchValue) (r : RecordValue) → IsContent c → IsCopy c log → look_up first_offset base c.kept ≡ Some b → record_at_delta d b ≡ Some r → record_at log (base +ℤ d) ≡ Some r
kept_record c log base d b r is copy e here = copy.records (base +ℤ d) r (record_in c.start base (base +ℤ d) c.kept b is.disjoint is.keepable e (omega (arith, ints, low)) (omega (arith, ints, high, first)) ∙ ap (λ (k : ℤ). record_at_delta k b) same ∙ here)
  where
    some_none : None ≡ Some r → ⊥
    some_none f = absurd cc

    keepable : IsKeepable b
    keepable = kept_keepable c base b is e

    first : first_offset b ≡ base
    first = look_up-offset first_offset base c.kept b e

    low : pos 0 ≤ℤ d
    low = by_lt_z d (pos 0) (λ less. absurd (some_none (sym (rec_below d b keepable less) ∙ here))) (λ le. le)

    high : d ≤ℤ b.head.last_delta
    high = by_lt_z b.head.last_delta d (λ less. absurd (some_none (sym (rec_above d b keepable less) ∙ here))) (λ le. le)

    same : (base +ℤ d) -ℤ base ≡ d
    same = omega (arith, ints)

alike : (s : ℤ) (x y : Content) (log : Batches) → IsContent x → IsContent y → IsCopy x log → IsCopy y log → (base : ℤ) → AreAlikeAt s x y base
alike s x y log is_x is_y copy_x copy_y base left right from e f =
    let p = of_log x log base left copy_x e in
    let q = of_log y log base right copy_y f in
    let bases : first_offset p.batch ≡ first_offset q.batch = p.first ∙ sym q.first in
    let same : p.batch ≡ q.batch = same_some (look_up first_offset (first_offset q.batch) log) p.batch q.batch (sym (ap (λ (k : ℤ). look_up first_offset k log) bases) ∙ p.there) q.there in (
      sym p.head ∙ ap (λ (b : BatchValue). b.head) same ∙ q.head,
      λ d r t g h.
          same_some (record_at log (base +ℤ d)) r t (kept_record x log base d left r is_x copy_x e g) (kept_record y log base d right t is_y copy_y f h),
    )

later_boundary : (a b : Content) (log : Batches) → IsCopy a log → IsCopy b log → IsBoundary log (greater_start a b)
later_boundary a b log copy_a copy_b = by_lt_z a.start b.start
    (λ less. let same : b.start ≡ greater_start a b = omega (arith, ints, clamps) in subst (IsBoundary log) same copy_b.boundary)
    (λ le. let same : a.start ≡ greater_start a b = omega (arith, ints, clamps) in subst (IsBoundary log) same copy_a.boundary)

pub copies_agree : (a b : Content) (log : Batches) → IsContent a → IsContent b → IsPlainLog log → IsCopy a log → IsCopy b log → Agree a b
copies_agree a b log is_a is_b plain copy_a copy_b base =
    let boundary = later_boundary a b log copy_a copy_b in
    (fits (greater_start a b) a b log is_a is_b plain copy_a copy_b boundary base, fits (greater_start a b) b a log is_b is_a plain copy_b copy_a boundary base, alike (greater_start a b) a b log is_a is_b copy_a copy_b base)

-- ---- two copies with one start

module _ (a b : Content) (log : Batches) (is_a : IsContent a) (is_b : IsContent b) (plain : IsPlainLog log) (copy_a : IsCopy a log) (copy_b : IsCopy b log) (starts : a.start ≡ b.start) where
  is_join : IsContent (join a b)
  is_join = content_join a b is_a is_b

  agree : Agree a b
  agree = copies_agree a b log is_a is_b plain copy_a copy_b

  start_is : (join a b).start ≡ a.start
  start_is = let same : greater_start a b ≡ a.start = omega (arith, ints, clamps) in join_start a b ∙ same

  covered : (o : ℤ) → covers (join a b).cover o ≡ (covers a.cover o || covers b.cover o)
  covered o = by (covers a.cover o) (covers b.cover o) refl refl
    where
      from : (t : Bool) → (a.start ≤ℤ o) → covers (join a b).cover o ≡ ((covers a.cover o || covers b.cover o) && int_le (greater_start a b) o) → covers (join a b).cover o ≡ (covers a.cover o || covers b.cover o)
      from t le e = let test : int_le (greater_start a b) o ≡ true = grind (arith, ints, clamps, starts, le) in e ∙ grind (arith, test)

      by : (p q : Bool) → covers a.cover o ≡ p → covers b.cover o ≡ q → covers (join a b).cover o ≡ (covers a.cover o || covers b.cover o)
      by true q e f = from true (is_a.above o e) (join_covers a b o)
      by false true e f = from true (let le : b.start ≤ℤ o = is_b.above o f in omega (arith, ints, starts)) (join_covers a b o)
      by false false e f = join_covers a b o ∙ grind (arith, e, f)

  from_left : (o : ℤ) → covers a.cover o ≡ true → covers (join a b).cover o ≡ true
  from_left o e = covered o ∙ grind (arith, e)

  from_right : (o : ℤ) → covers b.cover o ≡ true → covers (join a b).cover o ≡ true
  from_right o e = covered o ∙ grind (arith, e)

  of_side : (o : ℤ) → covers (join a b).cover o ≡ true → (covers a.cover o ≡ true) ⊎ (covers b.cover o ≡ true)
  of_side o e = by (covers a.cover o) (covers b.cover o) refl refl (sym (covered o) ∙ e)
    where
      by : (p q : Bool) → covers a.cover o ≡ p → covers b.cover o ≡ q → (covers a.cover o || covers b.cover o) ≡ true → (covers a.cover o ≡ true) ⊎ (covers b.cover o ≡ true)
      by true q f g h = inl f
      by false true f g h = inr g
      by false false f g h = absurd (true≢false (sym h ∙ grind (arith, f, g)))

  seen_batches : (o : ℤ) → covers (join a b).cover o ≡ true → IsSeenBatch (join a b) log o
  seen_batches o e = by (of_side o e)
    where
      by : (covers a.cover o ≡ true) ⊎ (covers b.cover o ≡ true) → IsSeenBatch (join a b) log o
      by (inl f) = let seen = copy_a.seen_batches o f in let from : a.start ≤ℤ first_offset seen.batch = seen.from_start in
          record { batch = seen.batch; of_log = seen.of_log; from_start = subst (λ (s : ℤ). s ≤ℤ first_offset seen.batch) (sym start_is) from; has_offset = seen.has_offset; all_seen = inside_more a.cover (join a b).cover seen.batch is_join.canonical from_left seen.all_seen }
      by (inr f) = let seen = copy_b.seen_batches o f in let from : b.start ≤ℤ first_offset seen.batch = seen.from_start in
          record { batch = seen.batch; of_log = seen.of_log; from_start = subst (λ (s : ℤ). s ≤ℤ first_offset seen.batch) (sym (start_is ∙ starts)) from; has_offset = seen.has_offset; all_seen = inside_more b.cover (join a b).cover seen.batch is_join.canonical from_right seen.all_seen }

  heads : (base : ℤ) (z : BatchValue) → look_up first_offset base (join a b).kept ≡ Some z → (y : BatchValue) × (look_up first_offset base log ≡ Some y) × (y.head ≡ z.head)
  heads base z e = by (join_side a b base z is_a is_b e)
    where
      by : IsFrom a base z ⊎ IsFrom b base z → (y : BatchValue) × (look_up first_offset base log ≡ Some y) × (y.head ≡ z.head)
      by (inl p) = let found = copy_a.heads base p.batch p.there in (found.0, found.1, found.2 ∙ sym (part_head z p.batch p.part))
      by (inr p) = let found = copy_b.heads base p.batch p.there in (found.0, found.1, found.2 ∙ sym (part_head z p.batch p.part))

  held_seen : (o : ℤ) (r : RecordValue) → record_at (join a b).kept o ≡ Some r → covers (join a b).cover o ≡ true
  held_seen o r e = let has = record_from (join a b).start o (join a b).kept r is_join.disjoint is_join.keepable e in is_join.inside (first_offset has.batch) o has.batch has.there has.from has.to

  records : (o : ℤ) (r : RecordValue) → record_at (join a b).kept o ≡ Some r → record_at log o ≡ Some r
  records o r e = by (of_side o (held_seen o r e))
    where
      by : (covers a.cover o ≡ true) ⊎ (covers b.cover o ≡ true) → record_at log o ≡ Some r
      by (inl f) = copy_a.records o r ((held_in_join a b o r is_a is_b agree e).0 f)
      by (inr f) = copy_b.records o r ((held_in_join a b o r is_a is_b agree e).1 f)

  -- what a dead tombstone of one side says of the merge
  dead_in_join : (x : Content) → (o : ℤ) (r : RecordValue) → x.start ≡ a.start → ((q : ℤ) → covers x.cover q ≡ true → covers (join a b).cover q ≡ true)
      → ((q : ℤ) (t : RecordValue) → record_at (join a b).kept q ≡ Some t → covers x.cover q ≡ true → record_at x.kept q ≡ Some t)
      → IsLatest log (join a b).cover o r → IsDeadTombstone x o r → IsDeadTombstone (join a b) o r
  dead_in_join x o r start more held last dead = (dead.0, λ i from to. more i (dead.1 i (subst (λ (s : ℤ). s ≤ℤ i) (start_is ∙ sym start) from) to), λ q t e. by q t e (same_key t r) refl)
    where
      by : (q : ℤ) (t : RecordValue) → record_at (join a b).kept q ≡ Some t → (k : Bool) → same_key t r ≡ k → same_key t r ≡ false
      by q t e false same = same
      by q t e true same =
          let seen = held_seen q t e in
          let most : q ≤ℤ o = last q t (records q t e) seen same in
          let least : (join a b).start ≤ℤ q = is_join.above q seen in
          dead.2 q t (held q t e (dead.1 q (subst (λ (s : ℤ). s ≤ℤ q) (start_is ∙ sym start) least) most))

  -- a record that the left holds, and the right too if it has seen the offset, is held in the merge
  stays_in_join : (o : ℤ) (r : RecordValue) → record_at a.kept o ≡ Some r → (covers b.cover o ≡ true → record_at b.kept o ≡ Some r) → record_at (join a b).kept o ≡ Some r
  stays_in_join o r e both = by (slot_at b base) refl
    where
      has : HasRecord a.kept o r
      has = record_from a.start o a.kept r is_a.disjoint is_a.keepable e

      base : ℤ
      base = first_offset has.batch

      y : IsOfLog log base has.batch
      y = of_log a log base has.batch copy_a has.there

      over : IsOver log o y.batch
      over = over_kept a log base o has.batch copy_a has.there has.from has.to

      span : base ≤ℤ last_offset has.batch
      span = let p : base ≤ℤ o = has.from in let q : o ≤ℤ last_offset has.batch = has.to in omega (arith, ints)

      -- the right has seen the offset where it has seen the base
      seen_too : covers b.cover base ≡ true → covers b.cover o ≡ true
      seen_too f = covered_whole b log is_b plain copy_b o y.batch over ∙ sym (covered_whole b log is_b plain copy_b base y.batch (over_kept a log base base has.batch copy_a has.there (omega (arith, ints)) span)) ∙ f

      kept_is : look_up first_offset base (join a b).kept ≡ batch_of_slot (slot_join (Kept has.batch) (slot_at b base))
      kept_is = join_kept a b base is_a is_b ∙ ap (λ (u : Slot). batch_of_slot (slot_join u (slot_at b base))) (slot_kept a base has.batch is_a has.there)

      -- the right's batch over the offset has that base
      base_of_right : (z : HasRecord b.kept o r) → first_offset z.batch ≡ base
      base_of_right z =
          let w = of_log b log (first_offset z.batch) z.batch copy_b z.there in
          let same : w.batch ≡ y.batch = log_one 0 log o w.batch y.batch plain (over_kept b log (first_offset z.batch) o z.batch copy_b z.there z.from z.to) over in
          sym w.first ∙ ap first_offset same ∙ y.first

      in_join : (z : BatchValue) → look_up first_offset base (join a b).kept ≡ Some z → last_offset z ≡ last_offset has.batch → record_at_delta (o -ℤ base) z ≡ Some r → record_at (join a b).kept o ≡ Some r
      in_join z there last here = let to : o ≤ℤ last_offset has.batch = has.to in record_in (join a b).start base o (join a b).kept z is_join.disjoint is_join.keepable there has.from (omega (arith, ints, last)) ∙ here

      by : (v : Slot) → slot_at b base ≡ v → record_at (join a b).kept o ≡ Some r
      by Unknown s = in_join has.batch (kept_is ∙ ap (λ (v : Slot). batch_of_slot (slot_join (Kept has.batch) v)) s) refl has.here
      by (Kept z) s =
          let there : look_up first_offset base b.kept ≡ Some z = slot_batch b base is_b ∙ ap batch_of_slot s in
          let seen : covers b.cover o ≡ true = seen_too (kept_covered b base z is_b there) in
          let w = of_log b log base z copy_b there in
          let same : w.batch ≡ y.batch = same_some (look_up first_offset (first_offset y.batch) log) w.batch y.batch (sym (ap (λ (k : ℤ). look_up first_offset k log) (w.first ∙ sym y.first)) ∙ w.there) y.there in
          let ends : last_offset z ≡ last_offset has.batch = sym w.last ∙ ap last_offset same ∙ y.last in
          let to : o ≤ℤ last_offset has.batch = has.to in
          let right : record_at_delta (o -ℤ base) z ≡ Some r = sym (record_in b.start base o b.kept z is_b.disjoint is_b.keepable there has.from (omega (arith, ints, ends))) ∙ both seen in
          in_join (with_common_records has.batch z) (kept_is ∙ ap (λ (v : Slot). batch_of_slot (slot_join (Kept has.batch) v)) s) refl
          (rec_common (o -ℤ base) has.batch z ∙ ap (λ (q : Option RecordValue). if is_some q then record_at_delta (o -ℤ base) has.batch else None) right ∙ has.here)
      by Gone s =
          let seen : covers b.cover base ≡ true = slot_seen b base is_b ∙ ap is_seen s in
          let z = record_from b.start o b.kept r is_b.disjoint is_b.keepable (both (seen_too seen)) in
          let there : look_up first_offset base b.kept ≡ Some z.batch = ap (λ (k : ℤ). look_up first_offset k b.kept) (sym (base_of_right z)) ∙ z.there in
          absurd (clash (look_up first_offset base b.kept) z.batch there (slot_batch b base is_b ∙ ap batch_of_slot s))
        where
          clash : (q : Option BatchValue) (w : BatchValue) → q ≡ Some w → q ≡ None → ⊥
          clash q w f g = cc
      by Below s =
          let below : int_lt base b.start ≡ true = slot_below b base ∙ ap is_below s in
          let above : a.start ≤ℤ base = is_a.above base (kept_covered a base has.batch is_a has.there) in
          absurd (grind (arith, ints, starts, below, above))

  -- ---- the latest records, by the sides that have seen them

  held_of_left : (q : ℤ) (t : RecordValue) → record_at (join a b).kept q ≡ Some t → covers a.cover q ≡ true → record_at a.kept q ≡ Some t
  held_of_left q t e = (held_in_join a b q t is_a is_b agree e).0

  held_of_right : (q : ℤ) (t : RecordValue) → record_at (join a b).kept q ≡ Some t → covers b.cover q ≡ true → record_at b.kept q ≡ Some t
  held_of_right q t e = (held_in_join a b q t is_a is_b agree e).1

  pub latest_left : (o : ℤ) (r : RecordValue) → record_at log o ≡ Some r → covers a.cover o ≡ true → IsLatest log (join a b).cover o r → (record_at (join a b).kept o ≡ Some r) ⊎ IsDeadTombstone (join a b) o r
  latest_left o r there seen last = by (copy_a.latest o r there seen (λ q t in_q f same. last q t in_q (from_left q f) same))
    where
      right : (p : Bool) → covers b.cover o ≡ p → record_at a.kept o ≡ Some r → (record_at (join a b).kept o ≡ Some r) ⊎ IsDeadTombstone (join a b) o r
      right false f held = inl (stays_in_join o r held (λ g. absurd (true≢false (sym g ∙ f))))
      right true f held = more (copy_b.latest o r there f (λ q t in_q g same. last q t in_q (from_right q g) same))
        where
          more : (record_at b.kept o ≡ Some r) ⊎ IsDeadTombstone b o r → (record_at (join a b).kept o ≡ Some r) ⊎ IsDeadTombstone (join a b) o r
          more (inl too) = inl (stays_in_join o r held (λ g. too))
          more (inr dead) = inr (dead_in_join b o r (sym starts) from_right held_of_right last dead)

      by : (record_at a.kept o ≡ Some r) ⊎ IsDeadTombstone a o r → (record_at (join a b).kept o ≡ Some r) ⊎ IsDeadTombstone (join a b) o r
      by (inl held) = right (covers b.cover o) refl held
      by (inr dead) = inr (dead_in_join a o r refl from_left held_of_left last dead)

  -- ---- windows

  pub window_left : (base : ℤ) (y : BatchValue) → look_up first_offset base log ≡ Some y → covers a.cover base ≡ true → pos 0 ≤ℤ y.head.producer → is_in_window (heads_inside (join a b).cover log) y.head ≡ true → IsSome (look_up first_offset base (join a b).kept)
  window_left base y there seen numbered is = by (look_up first_offset base a.kept) refl kept_a
    where
      at_y : (first_offset y ≡ base) × IsIn log y
      at_y = at_base log base y there

      over : IsOver log base y
      over = record { there = at_y.1; from = omega (arith, ints, at_y.0); to = let span : first_offset y ≤ℤ last_offset y = (span_of y (log_batch 0 log y plain at_y.1)).0 in omega (arith, ints, at_y.0) }

      kept_a : IsSome (look_up first_offset base a.kept)
      kept_a = copy_a.window base y there (sym (covered_whole a log is_a plain copy_a base y over) ∙ seen) numbered (more_cover a.cover (join a b).cover log y.head is_join.canonical from_left is)

      kept_b : covers b.cover base ≡ true → IsSome (look_up first_offset base b.kept)
      kept_b f = copy_b.window base y there (sym (covered_whole b log is_b plain copy_b base y over) ∙ f) numbered (more_cover b.cover (join a b).cover log y.head is_join.canonical from_right is)

      some : (o : Option BatchValue) (z : BatchValue) → o ≡ Some z → IsSome o
      some o z f = subst IsSome (sym f) refl

      by : (o : Option BatchValue) → look_up first_offset base a.kept ≡ o → IsSome o → IsSome (look_up first_offset base (join a b).kept)
      by None e present = absurd (true≢false (sym present))
      by (Some x) e present = slot (slot_at b base) refl
        where
          kept_is : look_up first_offset base (join a b).kept ≡ batch_of_slot (slot_join (Kept x) (slot_at b base))
          kept_is = join_kept a b base is_a is_b ∙ ap (λ (u : Slot). batch_of_slot (slot_join u (slot_at b base))) (slot_kept a base x is_a e)

          slot : (v : Slot) → slot_at b base ≡ v → IsSome (look_up first_offset base (join a b).kept)
          slot Unknown s = some (look_up first_offset base (join a b).kept) x (kept_is ∙ ap (λ (v : Slot). batch_of_slot (slot_join (Kept x) v)) s)
          slot (Kept z) s = some (look_up first_offset base (join a b).kept) (with_common_records x z) (kept_is ∙ ap (λ (v : Slot). batch_of_slot (slot_join (Kept x) v)) s)
          slot Gone s =
              let seen_b : covers b.cover base ≡ true = slot_seen b base is_b ∙ ap is_seen s in
              absurd (true≢false (sym (kept_b seen_b) ∙ ap is_some (slot_batch b base is_b ∙ ap batch_of_slot s)))
          slot Below s =
              let below : int_lt base b.start ≡ true = slot_below b base ∙ ap is_below s in
              let above : a.start ≤ℤ base = is_a.above base (kept_covered a base x is_a e) in
              absurd (grind (arith, ints, starts, below, above))

-- ---- the merge of two copies with one start

copy_of_equal_starts : (a b : Content) (log : Batches) → IsContent a → IsContent b → IsPlainLog log → IsCopy a log → IsCopy b log → a.start ≡ b.start → IsCopy (join a b) log
copy_of_equal_starts a b log is_a is_b plain copy_a copy_b starts = record {
  boundary = subst (IsBoundary log) (sym (start_is a b log is_a is_b plain copy_a copy_b starts)) copy_a.boundary;
  seen_batches = seen_batches a b log is_a is_b plain copy_a copy_b starts;
  heads = heads a b log is_a is_b plain copy_a copy_b starts;
  records = records a b log is_a is_b plain copy_a copy_b starts;
  latest = latest;
  window = window;
}
  where
    turned : join b a ≡ join a b
    turned = sym (join_comm_agree a b is_a is_b (copies_agree a b log is_a is_b plain copy_a copy_b))

    latest : (o : ℤ) (r : RecordValue) → record_at log o ≡ Some r → covers (join a b).cover o ≡ true → IsLatest log (join a b).cover o r → (record_at (join a b).kept o ≡ Some r) ⊎ IsDeadTombstone (join a b) o r
    latest o r there e last = by (of_side a b log is_a is_b plain copy_a copy_b starts o e)
      where
        by : (covers a.cover o ≡ true) ⊎ (covers b.cover o ≡ true) → (record_at (join a b).kept o ≡ Some r) ⊎ IsDeadTombstone (join a b) o r
        by (inl f) = latest_left a b log is_a is_b plain copy_a copy_b starts o r there f last
        by (inr f) = subst (λ (n : Content). (record_at n.kept o ≡ Some r) ⊎ IsDeadTombstone n o r) turned
            (latest_left b a log is_b is_a plain copy_b copy_a (sym starts) o r there f (subst (λ (n : Content). IsLatest log n.cover o r) (sym turned) last))

    window : (base : ℤ) (y : BatchValue) → look_up first_offset base log ≡ Some y → is_inside (join a b).cover y ≡ true → pos 0 ≤ℤ y.head.producer → is_in_window (heads_inside (join a b).cover log) y.head ≡ true → IsSome (look_up first_offset base (join a b).kept)
    window base y there inside numbered is = by (of_side a b log is_a is_b plain copy_a copy_b starts base covered_base)
      where
        at_y : (first_offset y ≡ base) × IsIn log y
        at_y = at_base log base y there

        covered_base : covers (join a b).cover base ≡ true
        covered_base = let span : first_offset y ≤ℤ last_offset y = (span_of y (log_batch 0 log y plain at_y.1)).0 in
            has_all_covers (join a b).cover (first_offset y) (last_offset y) inside base (omega (arith, ints, at_y.0)) (omega (arith, ints, at_y.0))

        by : (covers a.cover base ≡ true) ⊎ (covers b.cover base ≡ true) → IsSome (look_up first_offset base (join a b).kept)
        by (inl f) = window_left a b log is_a is_b plain copy_a copy_b starts base y there f numbered is
        by (inr f) = subst (λ (n : Content). IsSome (look_up first_offset base n.kept)) turned
            (window_left b a log is_b is_a plain copy_b copy_a (sym starts) base y there f numbered (subst (λ (n : Content). is_in_window (heads_inside n.cover log) y.head ≡ true) (sym turned) is))

-- ---- the merge of any two copies: both are first cut to the later start

pub copy_of_join : (a b : Content) (log : Batches) → IsContent a → IsContent b → IsPlainLog log → IsCopy a log → IsCopy b log → IsCopy (join a b) log
copy_of_join a b log is_a is_b plain copy_a copy_b =
    let s = greater_start a b in
    let least_a : a.start ≤ℤ s = omega (arith, ints, clamps) in
    let least_b : b.start ≤ℤ s = omega (arith, ints, clamps) in
    let top_a : a.start ≤ℤ pos (2 ^ 62) = is_a.in_range.1 in
    let top_b : b.start ≤ℤ pos (2 ^ 62) = is_b.in_range.1 in
    let most : s ≤ℤ pos (2 ^ 62) = omega (arith, ints, clamps) in
    let boundary = later_boundary a b log copy_a copy_b in
    let cut_a = content_cut a s is_a least_a most in
    let cut_b = content_cut b s is_b least_b most in
    let same : join (cut s a) (cut s b) ≡ join a b = sym (join_cut a b s is_a is_b least_a least_b) ∙ ap (λ (t : ℤ). cut t (join a b)) (sym (join_start a b)) ∙ cut_start (join a b) (content_join a b is_a is_b) in
    subst (λ (n : Content). IsCopy n log) same
    (copy_of_equal_starts (cut s a) (cut s b) log cut_a cut_b plain (copy_of_cut a s log is_a plain copy_a boundary least_a cut_a) (copy_of_cut b s log is_b plain copy_b boundary least_b cut_b) refl)
