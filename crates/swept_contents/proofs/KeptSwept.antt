-- What stays swept behind cleanings, later starts and batches.
use Rattle.std.proofs.Common.{◌≡◌, ◌^◌, ℤ, pos, Bool, true, false, cond, ◌&&◌, ◌⊎◌, inl, inr, Some, None, refl, sym, ap, subst, ◌∙◌, true≢false, arith}
use Rattle.std.specs.Prelude.{◌≤ℤ◌, ◌<ℤ◌, int_lt, int_le, if◌then◌else◌}
use Rattle.std.specs.Int.{int_min}
use Rattle.std.specs.Ordering.{int_eq}
use Rattle.std.proofs.lemmas.Int.{ints, clamps}
use Rattle.batch_codec.specs.Values.{RecordValue, BatchValue}
use Rattle.batch_codec.specs.Offsets.{first_offset, last_offset}
use Rattle.content.specs.declared.part.CleaningPart.{CleaningPart}
use Rattle.content.specs.ByOffset.{look_up}
use Rattle.content.specs.Records.{same_key}
use Rattle.content.specs.Content.{Content, IsContent, IsLogBatch, has_seen_all, HasSeenNone, with_batch, add, cut}
use Rattle.content.specs.Cleaning.{is_cleanable, is_superseded, clean}
use Rattle.content.specs.Parts.{clean_part}
use Rattle.content_laws.proofs.ByOffset.{look_up-put, look_up-filter_offset}
use Rattle.content_laws.proofs.Batches.{HasRecord}
use Rattle.content_laws.proofs.ContentSteps.{both_bools, content_part, content_clean, content_cut, content_with_batch}
use Rattle.content_laws.proofs.Sweeps.{any_by, any_of}
use Rattle.swept_contents.specs.Swept.{IsSwept}
use Rattle.swept_contents.proofs.Reading.{swept_at, swept_from, WasIn, fewer_swept}
use Rattle.swept_contents.proofs.SweptParts.{part_was, clean_was}

-- ---- lesser bounds

pub less_swept : (below upto less lower : ℤ) (c : Content) → IsContent c → IsSwept below upto c → less ≤ℤ below → lower ≤ℤ upto → IsSwept less lower c
less_swept below upto less lower c content swept nearer fewer = swept_from less lower c content each
  where
    each : (o : ℤ) (r : RecordValue) (has : HasRecord c.kept o r) → first_offset has.batch <ℤ less → is_superseded c lower (o, r) ≡ true → ⊥
    each o r has under e =
        let any = any_of c content (is_cleanable lower) (λ y. int_lt o y.0 && same_key y.1 r) e in
        let reached = any.reached in
        let sup : is_superseded c upto (o, r) ≡ true = any_by c content (is_cleanable upto) (λ y. int_lt o y.0 && same_key y.1 r)
        (record { offset = any.offset; value = any.value; has = any.has; reached = grind (arith, ints, reached, fewer); passes = any.passes }) in
        true≢false (sym sup ∙ swept_at below upto c content swept o r has (omega (arith, ints, under, nearer)))

-- ---- cleanings

pub part_keeps : (below upto : ℤ) (p : CleaningPart) (c : Content) → IsContent c → IsSwept below upto c → IsSwept below upto (clean_part p c)
part_keeps below upto p c content swept = fewer_swept below upto (clean_part p c) c (content_part p c content) content (part_was p c content) swept

pub clean_keeps : (below upto u d : ℤ) (c : Content) → IsContent c → IsSwept below upto c → IsSwept below upto (clean u d c)
clean_keeps below upto u d c content swept = fewer_swept below upto (clean u d c) c (content_clean u d c content) content (clean_was u d c content) swept

-- ---- a later start

pub cut_was : (s : ℤ) (c : Content) → WasIn (cut s c) c
cut_was s c q t has = record { has = record { batch = has.batch; there = there; from = has.from; to = has.to; here = has.here }; of = refl }
  where
    by : (b : Bool) → cond b (look_up first_offset (first_offset has.batch) c.kept) None ≡ Some has.batch → look_up first_offset (first_offset has.batch) c.kept ≡ Some has.batch
    by true f = f
    by false f = absurd cc

    there : look_up first_offset (first_offset has.batch) c.kept ≡ Some has.batch
    there = by (int_le s (first_offset has.batch)) (sym (look_up-filter_offset first_offset (int_le s) (first_offset has.batch) c.kept) ∙ has.there)

pub cut_keeps : (below upto s : ℤ) (c : Content) → IsContent c → c.start ≤ℤ s → s ≤ℤ pos (2 ^ 62) → IsSwept below upto c → IsSwept below upto (cut s c)
cut_keeps below upto s c content later most swept = fewer_swept below upto (cut s c) c (content_cut c s content later most) content (cut_was s c) swept

-- ---- a batch more

-- a batch that there is then, other than the new one, was there
pub was_there : (c : Content) (b x : BatchValue) → (first_offset b ≡ first_offset x → b ≡ x → ⊥) → look_up first_offset (first_offset x) (with_batch c b).kept ≡ Some x → look_up first_offset (first_offset x) c.kept ≡ Some x
was_there c b x other e = by (int_eq (first_offset b) (first_offset x)) refl (sym (look_up-put first_offset (first_offset x) b c.kept) ∙ e)
  where
    by : (t : Bool) → int_eq (first_offset b) (first_offset x) ≡ t → (if t then Some b else look_up first_offset (first_offset x) c.kept) ≡ Some x → look_up first_offset (first_offset x) c.kept ≡ Some x
    by true at f = let same : b ≡ x = cc in absurd (other (grind (arith, ints, at)) same)
    by false at f = f

module _ (below upto : ℤ) (c : Content) (b : BatchValue) (content : IsContent c) (log : IsLogBatch b) (swept : IsSwept below upto c) where
  batch_added : IsContent (with_batch c b) → IsSwept (int_min below (first_offset b)) (int_min upto (first_offset b)) (with_batch c b)
  batch_added new = swept_from (int_min below (first_offset b)) (int_min upto (first_offset b)) (with_batch c b) new each
    where
      span : first_offset b ≤ℤ last_offset b
      span = let delta : pos 0 ≤ℤ b.head.last_delta = log.writable.valid.last_delta in omega (arith, ints, delta)

      each : (o : ℤ) (r : RecordValue) (has : HasRecord (with_batch c b).kept o r) → first_offset has.batch <ℤ int_min below (first_offset b) → is_superseded (with_batch c b) (int_min upto (first_offset b)) (o, r) ≡ true → ⊥
      each o r has less e =
          let any = any_of (with_batch c b) new (is_cleanable (int_min upto (first_offset b))) (λ y. int_lt o y.0 && same_key y.1 r) e in
          let reached = any.reached in
          let ends : last_offset any.has.batch <ℤ int_min upto (first_offset b) = grind (arith, ints, reached) in
          let later_there = was_there c b any.has.batch (λ at same. let also : last_offset b ≡ last_offset any.has.batch = ap last_offset same in omega (arith, ints, clamps, ends, span, also)) any.has.there in
          let there = was_there c b has.batch (λ at same. omega (arith, ints, clamps, less, at)) has.there in
          let old : HasRecord c.kept o r = record { batch = has.batch; there = there; from = has.from; to = has.to; here = has.here } in
          let sup : is_superseded c upto (o, r) ≡ true = any_by c content (is_cleanable upto) (λ y. int_lt o y.0 && same_key y.1 r) (record {
            offset = any.offset;
            value = any.value;
            has = record { batch = any.has.batch; there = later_there; from = any.has.from; to = any.has.to; here = any.has.here };
            reached = (let under : last_offset any.has.batch <ℤ upto = omega (arith, ints, clamps, ends) in grind (arith, ints, under));
            passes = any.passes;
          }) in
          true≢false (sym sup ∙ swept_at below upto c content swept o r old (omega (arith, ints, clamps, less)))

  pub late_keeps : (has_seen_all c b ≡ true) ⊎ HasSeenNone c b → IsSwept (int_min below (first_offset b)) (int_min upto (first_offset b)) (add c b)
  late_keeps which = by (has_seen_all c b) refl which
    where
      by : (t : Bool) → has_seen_all c b ≡ t → (has_seen_all c b ≡ true) ⊎ HasSeenNone c b → IsSwept (int_min below (first_offset b)) (int_min upto (first_offset b)) (cond t c (with_batch c b))
      by true e w = less_swept below upto (int_min below (first_offset b)) (int_min upto (first_offset b)) c content swept (omega (arith, ints, clamps)) (omega (arith, ints, clamps))
      by false e (inl all) = absurd (both_bools (has_seen_all c b) all e)
      by false e (inr none) = batch_added (content_with_batch c b content log none)

  pub behind_keeps : (has_seen_all c b ≡ true) ⊎ HasSeenNone c b → below ≤ℤ first_offset b → upto ≤ℤ first_offset b → IsSwept below upto (add c b)
  behind_keeps which low under =
      let one : int_min below (first_offset b) ≡ below = omega (arith, ints, clamps, low) in
      let two : int_min upto (first_offset b) ≡ upto = omega (arith, ints, clamps, under) in
      subst (λ (u : ℤ). IsSwept below u (add c b)) two (subst (λ (l : ℤ). IsSwept l (int_min upto (first_offset b)) (add c b)) one (late_keeps which))
