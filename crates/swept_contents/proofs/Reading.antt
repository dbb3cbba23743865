-- What is swept, record by record.
use Rattle.std.proofs.Common.{◌≡◌, ℤ, ◌+ℤ◌, Bool, true, false, ◌&&◌, Some, None, refl, sym, ap, ◌∙◌, true≢false, arith}
use Rattle.std.specs.Prelude.{◌≤ℤ◌, ◌<ℤ◌, int_lt}
use Rattle.std.specs.List.{filter, list_any}
use Rattle.std.proofs.lemmas.Int.{ints, by_lt_z}
use Rattle.batch_codec.specs.declared.head.BatchHead.{BatchHead}
use Rattle.batch_codec.specs.Values.{RecordValue, BatchValue}
use Rattle.batch_codec.specs.Offsets.{first_offset, last_offset}
use Rattle.content.specs.ByOffset.{look_up}
use Rattle.content.specs.Records.{LogRecord, log_records, same_key}
use Rattle.content.specs.Content.{Content, IsContent}
use Rattle.content.specs.Cleaning.{is_cleanable, is_superseded}
use Rattle.content_laws.proofs.ByOffset.{look_up-low}
use Rattle.content_laws.proofs.Batches.{HasRecord}
use Rattle.content_laws.proofs.Slots.{bases_rise, kept_ends}
use Rattle.content_laws.proofs.Sweeps.{IsAnyOf, IsStillIn, any_by, any_of}
use Rattle.swept_contents.specs.Swept.{IsSwept}

-- a test that can't hold fails
pub never : (t : Bool) → (t ≡ true → ⊥) → t ≡ false
never true clash = absurd (clash refl)
never false clash = refl

-- ---- batches of a content

pub begins_late : (c : Content) (b : BatchValue) → IsContent c → look_up first_offset (first_offset b) c.kept ≡ Some b → c.start ≤ℤ first_offset b
begins_late c b content there = by_lt_z (first_offset b) c.start (λ less. absurd (clash (look_up-low first_offset c.start (first_offset b) c.kept (bases_rise c content) less))) (λ le. le)
  where
    none_some : None ≡ Some b → ⊥
    none_some e = absurd cc

    clash : look_up first_offset (first_offset b) c.kept ≡ None → ⊥
    clash none = none_some (sym none ∙ there)

pub ends_behind : (c : Content) (o : ℤ) (r : RecordValue) → IsContent c → (has : HasRecord c.kept o r) → first_offset has.batch ≤ℤ last_offset has.batch
ends_behind c o r content has = kept_ends c (first_offset has.batch) has.batch content has.there

pub same_first : (b e : BatchValue) → b.head ≡ e.head → first_offset b ≡ first_offset e
same_first b e same = ap (λ (h : BatchHead). h.base) same

pub same_last : (b e : BatchValue) → b.head ≡ e.head → last_offset b ≡ last_offset e
same_last b e same = ap (λ (h : BatchHead). h.base +ℤ h.last_delta) same

-- ---- both ways

module _ (below upto : ℤ) (c : Content) (content : IsContent c) where
  pub swept_at : IsSwept below upto c → (o : ℤ) (r : RecordValue) (has : HasRecord c.kept o r) → first_offset has.batch <ℤ below → is_superseded c upto (o, r) ≡ false
  swept_at swept o r has less = never (is_superseded c upto (o, r)) (λ e. absurd (true≢false (sym (any_by c content (λ b. int_lt (first_offset b) below) (is_superseded c upto) (record { offset = o; value = r; has = has; reached = grind (arith, ints, less); passes = e })) ∙ swept)))

  pub swept_from : ((o : ℤ) (r : RecordValue) (has : HasRecord c.kept o r) → first_offset has.batch <ℤ below → is_superseded c upto (o, r) ≡ true → ⊥) → IsSwept below upto c
  swept_from each = never (list_any (is_superseded c upto) (log_records (filter (λ b. int_lt (first_offset b) below) c.kept))) (λ e. clash (any_of c content (λ b. int_lt (first_offset b) below) (is_superseded c upto) e))
    where
      clash : IsAnyOf c.kept (λ b. int_lt (first_offset b) below) (is_superseded c upto) → ⊥
      clash any =
          let reached = any.reached in
          each any.offset any.value any.has (grind (arith, ints, reached)) any.passes

-- ---- fewer records

-- each record was in a batch with the same head
abbrev pub WasIn : Content → Content → Type 0
WasIn now c = (q : ℤ) (t : RecordValue) (has : HasRecord now.kept q t) → IsStillIn c.kept q t has.batch.head

pub superseded_before : (upto : ℤ) (now c : Content) → IsContent now → IsContent c → WasIn now c → (x : LogRecord) → is_superseded now upto x ≡ true → is_superseded c upto x ≡ true
superseded_before upto now c is_now content was x e =
    let any = any_of now is_now (is_cleanable upto) (λ y. int_lt x.0 y.0 && same_key y.1 x.1) e in
    let old = was any.offset any.value any.has in
    let last = same_last old.has.batch any.has.batch old.of in
    let reached = any.reached in
    any_by c content (is_cleanable upto) (λ y. int_lt x.0 y.0 && same_key y.1 x.1) (record { offset = any.offset; value = any.value; has = old.has; reached = grind (arith, ints, last, reached); passes = any.passes })

pub fewer_swept : (below upto : ℤ) (now c : Content) → IsContent now → IsContent c → WasIn now c → IsSwept below upto c → IsSwept below upto now
fewer_swept below upto now c is_now content was swept = swept_from below upto now is_now each
  where
    each : (o : ℤ) (r : RecordValue) (has : HasRecord now.kept o r) → first_offset has.batch <ℤ below → is_superseded now upto (o, r) ≡ true → ⊥
    each o r has less e =
        let old = was o r has in
        let first = same_first old.has.batch has.batch old.of in
        true≢false (sym (superseded_before upto now c is_now content was (o, r) e) ∙ swept_at below upto c content swept o r old.has (omega (arith, ints, first, less)))
