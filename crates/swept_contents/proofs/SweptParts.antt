-- What a cleaning, or a part of one, leaves swept.
use Rattle.std.proofs.Common.{◌≡◌, ℤ, Bool, true, false, ◌&&◌, ◌⊎◌, inl, inr, refl, sym, ap, subst, ◌∙◌, true≢false, arith}
use Rattle.std.specs.Prelude.{◌≤ℤ◌, ◌<ℤ◌, int_lt}
use Rattle.std.specs.List.{filter}
use Rattle.std.proofs.lemmas.Int.{ints, by_lt_z}
use Rattle.batch_codec.specs.Values.{RecordValue, BatchValue}
use Rattle.batch_codec.specs.Offsets.{first_offset, last_offset}
use Rattle.content.specs.declared.part.CleaningPart.{CleaningPart}
use Rattle.content.specs.Records.{same_key}
use Rattle.content.specs.Content.{Content, IsContent}
use Rattle.content.specs.Cleaning.{is_cleanable, is_superseded, is_removed, clean}
use Rattle.content.specs.Parts.{is_in_part, is_removed_in_part, clean_part, part_of, NoneIsAcross}
use Rattle.content_laws.proofs.ByOffset.{all_at}
use Rattle.content_laws.proofs.Batches.{HasRecord}
use Rattle.content_laws.proofs.ContentSteps.{content_part}
use Rattle.content_laws.proofs.Sweeps.{IsAnyOf, IsStillIn, held, same_or_before, to_reach, any_of, was_in, gone}
use Rattle.content_laws.proofs.CleaningParts.{whole_content}
use Rattle.swept_contents.specs.Swept.{IsSwept}
use Rattle.swept_contents.proofs.Reading.{begins_late, ends_behind, same_first, swept_at, swept_from, WasIn, superseded_before}

pub start_is_swept : (below upto : ℤ) (c : Content) → IsContent c → below ≤ℤ c.start → IsSwept below upto c
start_is_swept below upto c content low = swept_from below upto c content
    (λ o r has less e. let late = begins_late c has.batch content has.there in absurd (omega (arith, ints, less, late, low)))

module _ (p : CleaningPart) (c : Content) (content : IsContent c) where
  abbrev now : Content
  now = clean_part p c

  now_content : IsContent now
  now_content = content_part p c content

  pub part_was : WasIn (clean_part p c) c
  part_was q t has = was_in (is_in_part p) (is_removed_in_part p c) c content q t has

  -- a record that a part left is superseded by no batch below its bound, if its batch was in the part wherever it lies below
  -- the bound, or if it wasn't superseded before
  left : (o : ℤ) (r : RecordValue) (has : HasRecord now.kept o r) (old : HasRecord c.kept o r)
      → (is_cleanable p.upto old.batch ≡ true → (is_in_part p old.batch ≡ true) ⊎ (is_superseded c p.upto (o, r) ≡ false)) → is_superseded now p.upto (o, r) ≡ true → ⊥
  left o r has old in_part e = by (is_cleanable p.upto old.batch) refl
    where
      sup : is_superseded c p.upto (o, r) ≡ true
      sup = superseded_before p.upto now c now_content content part_was (o, r) e

      taken : (is_in_part p old.batch ≡ true) ⊎ (is_superseded c p.upto (o, r) ≡ false) → ⊥
      taken (inl is) = gone (is_in_part p) (is_removed_in_part p c) c content o r old is (grind (arith, sup)) r (held now now_content o r has)
      taken (inr not) = true≢false (sym sup ∙ not)

      -- what lies below the bound supersedes nothing in a batch that doesn't
      above : is_cleanable p.upto old.batch ≡ false → IsAnyOf c.kept (is_cleanable p.upto) (λ y. int_lt o y.0 && same_key y.1 r) → ⊥
      above is any = which (same_or_before c content any.offset o any.value r any.has old (let passes = any.passes in let less : o <ℤ any.offset = grind (arith, ints, passes) in omega (arith, ints, less)))
        where
          which : (any.has.batch ≡ old.batch) ⊎ (last_offset old.batch <ℤ first_offset any.has.batch) → ⊥
          which (inl same) = true≢false (sym any.reached ∙ ap (is_cleanable p.upto) same ∙ is)
          which (inr before) =
              let span = ends_behind c any.offset any.value content any.has in
              let reached = any.reached in
              let below : last_offset any.has.batch <ℤ p.upto = grind (arith, ints, reached) in
              let not_below : p.upto ≤ℤ last_offset old.batch = grind (arith, ints, is) in
              omega (arith, ints, before, span, below, not_below)

      by : (t : Bool) → is_cleanable p.upto old.batch ≡ t → ⊥
      by true is = taken (in_part is)
      by false is = above is (any_of c content (is_cleanable p.upto) (λ y. int_lt o y.0 && same_key y.1 r) sup)

  pub part_sweeps : IsSwept p.from p.upto c → NoneIsAcross p.to (filter (is_cleanable p.upto) c.kept) → IsSwept p.to p.upto (clean_part p c)
  part_sweeps swept none = swept_from p.to p.upto now now_content each
    where
      each : (o : ℤ) (r : RecordValue) (has : HasRecord now.kept o r) → first_offset has.batch <ℤ p.to → is_superseded now p.upto (o, r) ≡ true → ⊥
      each o r has less = left o r has was.has in_part
        where
          was : IsStillIn c.kept o r has.batch.head
          was = part_was o r has

          before : first_offset was.has.batch <ℤ p.to
          before = let first = same_first was.has.batch has.batch was.of in omega (arith, ints, first, less)

          ends : is_cleanable p.upto was.has.batch ≡ true → (last_offset was.has.batch <ℤ p.to) ⊎ (p.to ≤ℤ first_offset was.has.batch) → p.from ≤ℤ first_offset was.has.batch → is_in_part p was.has.batch ≡ true
          ends is (inl below) from = grind (arith, ints, is, below, from)
          ends is (inr late) from = absurd (omega (arith, ints, late, before))

          beside : is_cleanable p.upto was.has.batch ≡ true → (last_offset was.has.batch <ℤ p.to) ⊎ (p.to ≤ℤ first_offset was.has.batch)
          beside is = all_at first_offset (λ (b : BatchValue). (last_offset b <ℤ p.to) ⊎ (p.to ≤ℤ first_offset b)) (first_offset was.has.batch) (filter (is_cleanable p.upto) c.kept) was.has.batch none
              (to_reach c content (is_cleanable p.upto) (λ x. true) (first_offset was.has.batch) was.has.batch was.has.there is)

          in_part : is_cleanable p.upto was.has.batch ≡ true → (is_in_part p was.has.batch ≡ true) ⊎ (is_superseded c p.upto (o, r) ≡ false)
          in_part is = by_lt_z (first_offset was.has.batch) p.from
              (λ low. inr (swept_at p.from p.upto c content swept o r was.has low))
              (λ from. inl (ends is (beside is) from))

-- ---- a cleaning

z_refl : (a : ℤ) → a ≤ℤ a
z_refl a = omega (arith, ints)

pub clean_sweeps : (below u d : ℤ) (c : Content) → IsContent c → IsSwept below u (clean u d c)
clean_sweeps below u d c content = subst (IsSwept below u) (whole_content (part_of u d c.start u) c content (z_refl c.start) (z_refl u)) (swept_from below u (clean_part (part_of u d c.start u) c) (content_part (part_of u d c.start u) c content) each)
  where
    each : (o : ℤ) (r : RecordValue) (has : HasRecord (clean_part (part_of u d c.start u) c).kept o r) → first_offset has.batch <ℤ below → is_superseded (clean_part (part_of u d c.start u) c) u (o, r) ≡ true → ⊥
    each o r has less = left (part_of u d c.start u) c content o r has was.has in_part
      where
        was : IsStillIn c.kept o r has.batch.head
        was = part_was (part_of u d c.start u) c content o r has

        in_part : is_cleanable u was.has.batch ≡ true → (is_in_part (part_of u d c.start u) was.has.batch ≡ true) ⊎ (is_superseded c u (o, r) ≡ false)
        in_part is = let late = begins_late c was.has.batch content was.has.there in inl (grind (arith, ints, is, late))

pub clean_was : (u d : ℤ) (c : Content) → IsContent c → WasIn (clean u d c) c
clean_was u d c content q t has = was_in (is_cleanable u) (is_removed c u d) c content q t has
