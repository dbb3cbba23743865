-- Which records of a copy a sweep leaves: those of batches that it doesn't reach, and of the others those that don't go.
use Rattle.std.proofs.Common.{◌≡◌, ℤ, pos, ◌+ℤ◌, ◌-ℤ◌, Bool, true, false, cond, not, ◌&&◌, ◌||◌, ◌⊎◌, inl, inr, List, [], ◌∷◌, length, Option, Some, None, refl, sym, ap, subst, ◌∙◌, true≢false, arith}
use Rattle.std.specs.Prelude.{◌≤ℤ◌, ◌<ℤ◌, nat_eq, if◌then◌else◌}
use Rattle.std.specs.List.{filter, list_any, AllByRecursion}
use Rattle.std.specs.Option.{option_and_then}
use Rattle.std.specs.Ordering.{int_eq}
use Rattle.std.proofs.lemmas.Int.{ints, by_lt_z}
use Rattle.batch_codec.specs.declared.head.BatchHead.{BatchHead}
use Rattle.batch_codec.specs.Values.{RecordValue, BatchValue}
use Rattle.batch_codec.specs.Offsets.{first_offset, last_offset, offset_of, SpansRise}
use Rattle.content.specs.ByOffset.{look_up, Rises}
use Rattle.content.specs.Records.{LogRecord, log_records, record_at, record_at_delta, with_records_that, IsKeepable}
use Rattle.content.specs.Content.{Content, IsContent}
use Rattle.content.specs.Cleaning.{is_exempt, unless_empty}
use Rattle.content_laws.proofs.ByOffset.{look_up-offset, look_up-low, look_up-filter, look_up-filter_map}
use Rattle.content_laws.proofs.Batches.{Batches, delta_of, records_rise, record_in, HasRecord, record_from, placed_rises, spans_apart}
use Rattle.content_laws.proofs.BatchParts.{part_head, all-filter, thin_spans, thin_all_keepable, IsLeftOf, left_of, thin_records}
use Rattle.content_laws.proofs.Slots.{bases_rise, kept_keepable}
use Rattle.content_laws.proofs.ContentSteps.{left_by, sweep, left_thins}
use Rattle.content_laws.proofs.Tables.{offset_in_log}
use Rattle.content_laws.proofs.CopyFacts.{record_of_look_up, look_up_of_record}
use Rattle.content_laws.proofs.CopyParts.{same_some}

-- ---- tests on some records

pub any_at : (p : LogRecord → Bool) (o : ℤ) (xs : List LogRecord) (x : LogRecord) → look_up offset_in_log o xs ≡ Some x → p x ≡ true → list_any p xs ≡ true
any_at p o [] x e own = absurd cc
any_at p o (y ∷ ys) x e own = by (int_eq y.0 o) e (any_at p o ys x)
  where
    by : (t : Bool) → cond t (Some y) (look_up offset_in_log o ys) ≡ Some x → (look_up offset_in_log o ys ≡ Some x → p x ≡ true → list_any p ys ≡ true) → (p y || list_any p ys) ≡ true
    by true f ih = let same : y ≡ x = cc in let here : p y ≡ true = ap p same ∙ own in grind (arith, here)
    by false f ih = let rest : list_any p ys ≡ true = ih f own in grind (arith, rest)

pub record Passes (p : LogRecord → Bool) (xs : List LogRecord) : Type 0 where
  pub one : LogRecord
  pub there : look_up offset_in_log one.0 xs ≡ Some one
  pub passes : p one ≡ true

pub any_from : (p : LogRecord → Bool) (low : ℤ) (xs : List LogRecord) → Rises offset_in_log low xs → list_any p xs ≡ true → Passes p xs
any_from p low [] rise e = absurd (true≢false (sym e))
any_from p low (y ∷ ys) rise e = by (p y) refl e (any_from p (y.0 +ℤ pos 1) ys rise.1)
  where
    later : (x : LogRecord) → look_up offset_in_log x.0 ys ≡ Some x → look_up offset_in_log x.0 (y ∷ ys) ≡ Some x
    later x there = grind (arith, ints, there, look_up-low offset_in_log (y.0 +ℤ pos 1) x.0 ys rise.1)

    by : (t : Bool) → p y ≡ t → (t || list_any p ys) ≡ true → (list_any p ys ≡ true → Passes p ys) → Passes p (y ∷ ys)
    by true own f ih = record { one = y; there = grind (arith, ints); passes = own }
    by false own f ih = let rest = ih f in record { one = rest.one; there = later rest.one rest.there; passes = rest.passes }

spans_lower : (low high : ℤ) (bs : Batches) → low ≤ℤ high → SpansRise high bs → SpansRise low bs
spans_lower low high [] less spans = tt
spans_lower low high (b ∷ bs) less spans = (omega (arith, ints, less, spans.0), spans.1)

spans-filter : (p : BatchValue → Bool) (low : ℤ) (bs : Batches) → SpansRise low bs → AllByRecursion IsKeepable bs → SpansRise low (filter p bs)
spans-filter p low [] spans keepable = tt
spans-filter p low (b ∷ bs) spans keepable = by (p b) (spans-filter p (last_offset b +ℤ pos 1) bs spans.1 keepable.1)
  where
    by : (t : Bool) → SpansRise (last_offset b +ℤ pos 1) (filter p bs) → SpansRise low (cond t (b ∷ filter p bs) (filter p bs))
    by true rest = (spans.0, rest)
    by false rest = let least : pos 0 ≤ℤ b.head.last_delta = keepable.0.0.valid.last_delta in spans_lower low (last_offset b +ℤ pos 1) (filter p bs) (omega (arith, ints, spans.0, least)) rest

-- ---- a record of a content, and its batch

-- a record of one of the batches that pass a test
pub record IsAnyOf (bs : Batches) (reach : BatchValue → Bool) (p : LogRecord → Bool) : Type 0 where
  pub offset : ℤ
  pub value : RecordValue
  pub has : HasRecord bs offset value
  pub reached : reach has.batch ≡ true
  pub passes : p (offset, value) ≡ true

-- a record in a batch with such a head
pub record IsStillIn (bs : Batches) (o : ℤ) (r : RecordValue) (head : BatchHead) : Type 0 where
  pub has : HasRecord bs o r
  pub of : has.batch.head ≡ head

module _ (c : Content) (content : IsContent c) where
  -- two kept batches over one offset are one
  pub one_batch : (o : ℤ) (b e : BatchValue) → look_up first_offset (first_offset b) c.kept ≡ Some b → first_offset b ≤ℤ o → o ≤ℤ last_offset b → look_up first_offset (first_offset e) c.kept ≡ Some e → first_offset e ≤ℤ o → o ≤ℤ last_offset e → b ≡ e
  one_batch o b e in_b from_b to_b in_e from_e to_e = by_lt_z (first_offset b) (first_offset e)
      (λ less. let apart = spans_apart c.start (first_offset b) (first_offset e) c.kept b e content.disjoint content.keepable in_b in_e less in absurd (omega (arith, ints, apart, to_b, from_e)))
      (λ least. by_lt_z (first_offset e) (first_offset b)
      (λ less. let apart = spans_apart c.start (first_offset e) (first_offset b) c.kept e b content.disjoint content.keepable in_e in_b less in absurd (omega (arith, ints, apart, to_e, from_b)))
      (λ most. let bases : first_offset b ≡ first_offset e = omega (arith, ints, least, most) in
      same_some (look_up first_offset (first_offset e) c.kept) b e (sym (ap (λ (k : ℤ). look_up first_offset k c.kept) bases) ∙ in_b) in_e))

  pub held : (o : ℤ) (r : RecordValue) → HasRecord c.kept o r → record_at c.kept o ≡ Some r
  held o r has = record_in c.start (first_offset has.batch) o c.kept has.batch content.disjoint content.keepable has.there has.from has.to ∙ has.here

  pub held_in : (o : ℤ) (r : RecordValue) → record_at c.kept o ≡ Some r → HasRecord c.kept o r
  held_in o r e = record_from c.start o c.kept r content.disjoint content.keepable e

  -- a record's offset in its batch
  pub offset_is : (o : ℤ) (r : RecordValue) (has : HasRecord c.kept o r) → offset_of has.batch r ≡ o
  offset_is o r has = let delta : r.delta ≡ o -ℤ first_offset has.batch = look_up-offset delta_of (o -ℤ first_offset has.batch) has.batch.recs r has.here in omega (arith, ints)

  pub keepable_of : (o : ℤ) (r : RecordValue) (has : HasRecord c.kept o r) → IsKeepable has.batch
  keepable_of o r has = kept_keepable c (first_offset has.batch) has.batch content has.there

  -- an older record is in the same batch, or in one that lies before
  pub same_or_before : (o q : ℤ) (r t : RecordValue) (has : HasRecord c.kept o r) (old : HasRecord c.kept q t) → q ≤ℤ o → (has.batch ≡ old.batch) ⊎ (last_offset old.batch <ℤ first_offset has.batch)
  same_or_before o q r t has old less = by_lt_z q (first_offset has.batch) before (λ from. inl (one_batch q has.batch old.batch has.there from (omega (arith, ints, less, to)) old.there old.from old.to))
    where
      to : o ≤ℤ last_offset has.batch
      to = has.to

      before : q <ℤ first_offset has.batch → (has.batch ≡ old.batch) ⊎ (last_offset old.batch <ℤ first_offset has.batch)
      before under =
          let begins : first_offset old.batch ≤ℤ q = old.from in
          inr (spans_apart c.start (first_offset old.batch) (first_offset has.batch) c.kept old.batch has.batch content.disjoint content.keepable old.there has.there (omega (arith, ints, begins, under)))

  -- ---- the records of the batches that pass a test

  module _ (reach : BatchValue → Bool) (p : LogRecord → Bool) where
    reach_spans : SpansRise c.start (filter reach c.kept)
    reach_spans = spans-filter reach c.start c.kept content.disjoint content.keepable

    reach_keepable : AllByRecursion IsKeepable (filter reach c.kept)
    reach_keepable = all-filter IsKeepable reach c.kept content.keepable

    in_reach : (base : ℤ) (b : BatchValue) → look_up first_offset base (filter reach c.kept) ≡ Some b → (look_up first_offset base c.kept ≡ Some b) × (reach b ≡ true)
    in_reach base b e = by (look_up first_offset base c.kept) refl (sym (look_up-filter first_offset reach c.start base c.kept (bases_rise c content)) ∙ e)
      where
        by : (z : Option BatchValue) → look_up first_offset base c.kept ≡ z → option_and_then (λ x. if reach x then Some x else None) z ≡ Some b → (look_up first_offset base c.kept ≡ Some b) × (reach b ≡ true)
        by None f g = absurd cc
        by (Some x) f g = test (reach x) refl g
          where
            test : (t : Bool) → reach x ≡ t → cond t (Some x) None ≡ Some b → (look_up first_offset base c.kept ≡ Some b) × (reach b ≡ true)
            test true is k = let same : x ≡ b = cc in (f ∙ k, subst (λ (y : BatchValue). reach y ≡ true) same is)
            test false is k = absurd cc

    pub to_reach : (base : ℤ) (b : BatchValue) → look_up first_offset base c.kept ≡ Some b → reach b ≡ true → look_up first_offset base (filter reach c.kept) ≡ Some b
    to_reach base b e is = look_up-filter first_offset reach c.start base c.kept (bases_rise c content) ∙ ap (option_and_then (λ x. if reach x then Some x else None)) e ∙ ap (λ (t : Bool). cond t (Some b) None) is

    -- a record among them is one of the content, in such a batch
    pub of_reached : (x : LogRecord) → look_up offset_in_log x.0 (log_records (filter reach c.kept)) ≡ Some x → (has : HasRecord c.kept x.0 x.1) × (reach has.batch ≡ true)
    of_reached x e =
        let has = record_from c.start x.0 (filter reach c.kept) x.1 reach_spans reach_keepable (record_of_look_up x.0 (filter reach c.kept) x e) in
        let batch = in_reach (first_offset has.batch) has.batch has.there in
        (record { batch = has.batch; there = batch.0; from = has.from; to = has.to; here = has.here }, batch.1)

    pub reached_rise : Rises offset_in_log c.start (log_records (filter reach c.kept))
    reached_rise = placed_rises c.start (filter reach c.kept) reach_spans reach_keepable

    pub any_by : IsAnyOf c.kept reach p → list_any p (log_records (filter reach c.kept)) ≡ true
    any_by is =
        let there = look_up_of_record is.offset (filter reach c.kept) is.value
        (record_in c.start (first_offset is.has.batch) is.offset (filter reach c.kept) is.has.batch reach_spans reach_keepable (to_reach (first_offset is.has.batch) is.has.batch is.has.there is.reached) is.has.from is.has.to ∙ is.has.here) in
        any_at p is.offset (log_records (filter reach c.kept)) (is.offset, is.value) there is.passes

    pub any_of : list_any p (log_records (filter reach c.kept)) ≡ true → IsAnyOf c.kept reach p
    any_of e =
        let found = any_from p c.start (log_records (filter reach c.kept)) reached_rise e in
        let of = of_reached found.one found.there in
        record { offset = found.one.0; value = found.one.1; has = of.0; reached = of.1; passes = found.passes }

-- ---- a sweep

module _ (reaches : BatchValue → Bool) (goes : LogRecord → Bool) (c : Content) (content : IsContent c) where
  pub kept_is : (base : ℤ) → look_up first_offset base (sweep reaches goes c).kept ≡ option_and_then (left_by reaches goes c) (look_up first_offset base c.kept)
  kept_is base = look_up-filter_map first_offset (left_by reaches goes c) (λ b z e. ap (λ (x : BatchHead). x.base) (part_head z b (left_thins reaches goes c b z e))) c.start base c.kept (bases_rise c content)

  pub held_old : (o : ℤ) (r : RecordValue) → record_at (sweep reaches goes c).kept o ≡ Some r → record_at c.kept o ≡ Some r
  held_old o r e = thin_records (left_by reaches goes c) (left_thins reaches goes c) c.start o c.kept r content.disjoint content.keepable e

  new_spans : SpansRise c.start (sweep reaches goes c).kept
  new_spans = thin_spans (left_by reaches goes c) (left_thins reaches goes c) c.start c.kept content.disjoint content.keepable

  new_keepable : AllByRecursion IsKeepable (sweep reaches goes c).kept
  new_keepable = thin_all_keepable (left_by reaches goes c) (left_thins reaches goes c) c.kept content.keepable

  -- the batch of which a kept one is left
  pub swept_of : (base : ℤ) (z : BatchValue) → look_up first_offset base (sweep reaches goes c).kept ≡ Some z → IsLeftOf (left_by reaches goes c) (left_thins reaches goes c) c.kept base z
  swept_of base z e = left_of (left_by reaches goes c) (left_thins reaches goes c) c.start base c.kept z (bases_rise c content) e

  pub head_of_swept : (base : ℤ) (z : BatchValue) (of : IsLeftOf (left_by reaches goes c) (left_thins reaches goes c) c.kept base z) → z.head ≡ of.batch.head
  head_of_swept base z of = part_head z of.batch (left_thins reaches goes c of.batch z of.left)

  -- ---- what a batch keeps

  abbrev stays : BatchValue → RecordValue → Bool
  stays b r = not (goes (offset_of b r, r))

  held_by : (b : BatchValue) (delta : ℤ) → IsKeepable b → record_at_delta delta (with_records_that (stays b) b) ≡ option_and_then (λ r. if stays b r then Some r else None) (record_at_delta delta b)
  held_by b delta keepable = look_up-filter delta_of (stays b) (pos 0) delta b.recs (records_rise b keepable)

  -- the record in what is left of its batch
  rest_of : (o : ℤ) (r : RecordValue) (has : HasRecord c.kept o r) (b : Bool) → goes (o, r) ≡ b → record_at_delta (o -ℤ first_offset has.batch) (with_records_that (stays has.batch) has.batch) ≡ cond (not b) (Some r) None
  rest_of o r has b e =
      held_by has.batch (o -ℤ first_offset has.batch) (keepable_of c content o r has)
      ∙ ap (option_and_then (λ (x : RecordValue). if stays has.batch x then Some x else None)) has.here
      ∙ ap (λ (t : Bool). cond (not t) (Some r) None) (ap (λ (k : ℤ). goes (k, r)) (offset_is c content o r has) ∙ e)

  not_empty : (delta : ℤ) (z : BatchValue) (r : RecordValue) → record_at_delta delta z ≡ Some r → nat_eq (length z.recs) 0 ≡ false
  not_empty delta z r e = by z.recs e
    where
      by : (rs : List RecordValue) → look_up delta_of delta rs ≡ Some r → nat_eq (length rs) 0 ≡ false
      by [] f = absurd cc
      by (x ∷ xs) f = grind arith

  -- a batch that is left, and has the record, holds it
  holds : (o : ℤ) (r : RecordValue) (has : HasRecord c.kept o r) (z : BatchValue) → left_by reaches goes c has.batch ≡ Some z → record_at_delta (o -ℤ first_offset has.batch) z ≡ Some r → IsStillIn (sweep reaches goes c).kept o r has.batch.head
  holds o r has z left here =
      let head : z.head ≡ has.batch.head = part_head z has.batch (left_thins reaches goes c has.batch z left) in
      let first : first_offset z ≡ first_offset has.batch = ap (λ (x : BatchHead). x.base) head in
      let last : last_offset z ≡ last_offset has.batch = ap (λ (x : BatchHead). x.base +ℤ x.last_delta) head in
      let to : o ≤ℤ last_offset has.batch = has.to in
      let from : first_offset has.batch ≤ℤ o = has.from in
      let there : look_up first_offset (first_offset z) (sweep reaches goes c).kept ≡ Some z = kept_is (first_offset z) ∙ ap (λ (k : ℤ). option_and_then (left_by reaches goes c) (look_up first_offset k c.kept)) first ∙ ap (option_and_then (left_by reaches goes c)) has.there ∙ left in
      record {
        has = record { batch = z; there = there; from = omega (arith, ints, first, from); to = omega (arith, ints, last, to); here = ap (λ (k : ℤ). record_at_delta (o -ℤ k) z) first ∙ here };
        of = head;
      }

  pub still_unreached : (o : ℤ) (r : RecordValue) (has : HasRecord c.kept o r) → reaches has.batch ≡ false → IsStillIn (sweep reaches goes c).kept o r has.batch.head
  still_unreached o r has is = holds o r has has.batch (ap (λ (t : Bool). cond t (unless_empty (is_exempt c has.batch) (with_records_that (stays has.batch) has.batch)) (Some has.batch)) is) has.here

  still_staying : (o : ℤ) (r : RecordValue) (has : HasRecord c.kept o r) → reaches has.batch ≡ true → goes (o, r) ≡ false → IsStillIn (sweep reaches goes c).kept o r has.batch.head
  still_staying o r has is stay =
      let z = with_records_that (stays has.batch) has.batch in
      let here : record_at_delta (o -ℤ first_offset has.batch) z ≡ Some r = rest_of o r has false stay in
      holds o r has z (ap (λ (t : Bool). cond t (unless_empty (is_exempt c has.batch) z) (Some has.batch)) is ∙ ap (λ (t : Bool). if t && not (is_exempt c has.batch) then None else Some z) (not_empty (o -ℤ first_offset has.batch) z r here)) here

  -- a record that doesn't go is held in a batch with the same head
  pub still_in : (o : ℤ) (r : RecordValue) (has : HasRecord c.kept o r) → goes (o, r) ≡ false → IsStillIn (sweep reaches goes c).kept o r has.batch.head
  still_in o r has stay = by (reaches has.batch) refl
    where
      by : (t : Bool) → reaches has.batch ≡ t → IsStillIn (sweep reaches goes c).kept o r has.batch.head
      by true is = still_staying o r has is stay
      by false is = still_unreached o r has is

  pub still_held : (o : ℤ) (r : RecordValue) (head : BatchHead) → IsStillIn (sweep reaches goes c).kept o r head → record_at (sweep reaches goes c).kept o ≡ Some r
  still_held o r head is = record_in c.start (first_offset is.has.batch) o (sweep reaches goes c).kept is.has.batch new_spans new_keepable is.has.there is.has.from is.has.to ∙ is.has.here

  -- a held record was held before, in a batch with the same head
  pub was_in : (o : ℤ) (r : RecordValue) (now : HasRecord (sweep reaches goes c).kept o r) → IsStillIn c.kept o r now.batch.head
  was_in o r now =
      let of = swept_of (first_offset now.batch) now.batch now.there in
      let head = head_of_swept (first_offset now.batch) now.batch of in
      let before = held_in c content o r (held_old o r (record_in c.start (first_offset now.batch) o (sweep reaches goes c).kept now.batch new_spans new_keepable now.there now.from now.to ∙ now.here)) in
      let in_of : look_up first_offset (first_offset of.batch) c.kept ≡ Some of.batch = ap (λ (x : BatchHead). look_up first_offset x.base c.kept) (sym head) ∙ of.there in
      let first : first_offset now.batch ≡ first_offset of.batch = ap (λ (x : BatchHead). x.base) head in
      let last : last_offset now.batch ≡ last_offset of.batch = ap (λ (x : BatchHead). x.base +ℤ x.last_delta) head in
      let from : first_offset now.batch ≤ℤ o = now.from in
      let to : o ≤ℤ last_offset now.batch = now.to in
      let same : of.batch ≡ before.batch = one_batch c content o of.batch before.batch in_of (omega (arith, ints, first, from)) (omega (arith, ints, last, to)) before.there before.from before.to in
      record { has = before; of = sym (head ∙ ap (λ (x : BatchValue). x.head) same) }

  -- a record of a reached batch that goes is held no more
  pub gone : (o : ℤ) (r : RecordValue) (has : HasRecord c.kept o r) → reaches has.batch ≡ true → goes (o, r) ≡ true → (t : RecordValue) → record_at (sweep reaches goes c).kept o ≡ Some t → ⊥
  gone o r has is goes_so t e = none_some (sym (rest_of o r has true goes_so) ∙ ap (record_at_delta (o -ℤ first_offset has.batch)) (sym left_is) ∙ ap (λ (k : ℤ). record_at_delta (o -ℤ k) now.batch) (sym base_is) ∙ now.here)
    where
      none_some : None ≡ Some t → ⊥
      none_some f = absurd cc

      now : HasRecord (sweep reaches goes c).kept o t
      now = record_from c.start o (sweep reaches goes c).kept t new_spans new_keepable e

      of : IsLeftOf (left_by reaches goes c) (left_thins reaches goes c) c.kept (first_offset now.batch) now.batch
      of = swept_of (first_offset now.batch) now.batch now.there

      head : now.batch.head ≡ of.batch.head
      head = head_of_swept (first_offset now.batch) now.batch of

      in_of : look_up first_offset (first_offset of.batch) c.kept ≡ Some of.batch
      in_of = ap (λ (x : BatchHead). look_up first_offset x.base c.kept) (sym head) ∙ of.there

      same : of.batch ≡ has.batch
      same =
          let first : first_offset now.batch ≡ first_offset of.batch = ap (λ (x : BatchHead). x.base) head in
          let last : last_offset now.batch ≡ last_offset of.batch = ap (λ (x : BatchHead). x.base +ℤ x.last_delta) head in
          let from : first_offset now.batch ≤ℤ o = now.from in
          let to : o ≤ℤ last_offset now.batch = now.to in
          one_batch c content o of.batch has.batch in_of (omega (arith, ints)) (omega (arith, ints)) has.there has.from has.to

      base_is : first_offset now.batch ≡ first_offset has.batch
      base_is = ap (λ (x : BatchHead). x.base) head ∙ ap first_offset same

      left : left_by reaches goes c has.batch ≡ Some now.batch
      left = ap (left_by reaches goes c) (sym same) ∙ of.left

      unless : (b : Bool) (z : BatchValue) → (if b then None else Some z) ≡ Some now.batch → now.batch ≡ z
      unless true z f = absurd cc
      unless false z f = cc

      left_is : now.batch ≡ with_records_that (stays has.batch) has.batch
      left_is = unless (nat_eq (length (with_records_that (stays has.batch) has.batch).recs) 0 && not (is_exempt c has.batch)) (with_records_that (stays has.batch) has.batch)
          (sym (ap (λ (v : Bool). cond v (unless_empty (is_exempt c has.batch) (with_records_that (stays has.batch) has.batch)) (Some has.batch)) is) ∙ left)

  -- of a batch that its producer's window has something is left
  pub left_exempt : (b : BatchValue) → is_exempt c b ≡ true → (z : BatchValue) × (left_by reaches goes c b ≡ Some z)
  left_exempt b exempt = by (reaches b) refl
    where
      z : BatchValue
      z = with_records_that (stays b) b

      never : (t : Bool) → (if t && false then None else Some z) ≡ Some z
      never true = refl
      never false = refl

      by : (t : Bool) → reaches b ≡ t → (y : BatchValue) × (left_by reaches goes c b ≡ Some y)
      by true is = (z, ap (λ (t : Bool). cond t (unless_empty (is_exempt c b) z) (Some b)) is ∙ ap (λ (t : Bool). if nat_eq (length z.recs) 0 && not t then None else Some z) exempt ∙ never (nat_eq (length z.recs) 0))
      by false is = (b, ap (λ (t : Bool). cond t (unless_empty (is_exempt c b) z) (Some b)) is)
