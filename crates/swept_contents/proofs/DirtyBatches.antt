-- What a part need not look at, where a copy is swept.
use Rattle.std.proofs.Common.{◌≡◌, ℤ, true, false, ◌&&◌, ◌⊎◌, inl, inr, sym, ap, ◌∙◌, true≢false, arith}
use Rattle.std.specs.Prelude.{◌≤ℤ◌, ◌<ℤ◌, int_lt}
use Rattle.std.specs.List.{filter, AllByRecursion}
use Rattle.std.proofs.lemmas.Int.{ints, by_lt_z}
use Rattle.batch_codec.specs.Values.{RecordValue}
use Rattle.batch_codec.specs.Offsets.{first_offset, last_offset}
use Rattle.content.specs.declared.part.CleaningPart.{CleaningPart}
use Rattle.content.specs.Records.{LogRecord, log_records, same_key}
use Rattle.content.specs.Content.{Content, IsContent}
use Rattle.content.specs.Cleaning.{is_cleanable, is_superseded}
use Rattle.content.specs.Parts.{is_in_part, part_records, has_older}
use Rattle.content_laws.proofs.ByOffset.{all_from_at}
use Rattle.content_laws.proofs.Batches.{HasRecord, spans_apart}
use Rattle.content_laws.proofs.Tables.{offset_in_log}
use Rattle.content_laws.proofs.Sweeps.{same_or_before, of_reached, reached_rise, any_by, any_of}
use Rattle.content_laws.proofs.CopyClean.{key_sym}
use Rattle.content_laws.proofs.AdjacentParts.{same_bool}
use Rattle.swept_contents.specs.Swept.{IsSwept, IsSettled, is_dirty, has_dirty}
use Rattle.swept_contents.proofs.Reading.{never, ends_behind, swept_at}

-- ---- older records before a part

module _ (p : CleaningPart) (c : Content) (content : IsContent c) (swept : IsSwept p.from p.upto c) where
  none_stands_before : (o : ℤ) (r : RecordValue) (has : HasRecord c.kept o r) → is_in_part p has.batch ≡ true → has_older c p.from (o, r) ≡ true → ⊥
  none_stands_before o r has is e =
      let any = any_of c content (λ b. int_lt (first_offset b) p.from) (λ y. same_key y.1 r) e in
      let reached = any.reached in
      let under : first_offset any.has.batch <ℤ p.from = grind (arith, ints, reached) in
      let from : p.from ≤ℤ first_offset has.batch = grind (arith, ints, is) in
      let apart = spans_apart c.start (first_offset any.has.batch) (first_offset has.batch) c.kept any.has.batch has.batch content.disjoint content.keepable any.has.there has.there (omega (arith, ints, under, from)) in
      let to : any.offset ≤ℤ last_offset any.has.batch = any.has.to in
      let begins : first_offset has.batch ≤ℤ o = has.from in
      let before : int_lt any.offset o ≡ true = grind (arith, ints, apart, to, begins) in
      let turned : same_key r any.value ≡ true = key_sym any.value.key r.key any.passes in
      let sup : is_superseded c p.upto (any.offset, any.value) ≡ true = any_by c content (is_cleanable p.upto) (λ y. int_lt any.offset y.0 && same_key y.1 any.value)
      (record { offset = o; value = r; has = has; reached = grind (arith, is); passes = grind (arith, turned, before) }) in
      true≢false (sym sup ∙ swept_at p.from p.upto c content swept any.offset any.value any.has under)

  pub no_older : AllByRecursion (λ x. has_older c p.from x ≡ false) (part_records p c)
  no_older = all_from_at offset_in_log (λ (x : LogRecord). has_older c p.from x ≡ false) c.start (part_records p c) (reached_rise c content (is_in_part p) (λ x. true))
      (λ x e. let of = of_reached c content (is_in_part p) (λ x. true) x e in never (has_older c p.from x) (λ f. none_stands_before x.0 x.1 of.0 of.1 f))

-- ---- what supersedes, in dirty batches alone

module _ (w upto : ℤ) (c : Content) (content : IsContent c) (settled : IsSettled w c) where
  module _ (x : LogRecord) (has : HasRecord c.kept x.0 x.1) (below : last_offset has.batch <ℤ w) where
    span : first_offset has.batch ≤ℤ last_offset has.batch
    span = ends_behind c x.0 x.1 content has

    up : is_superseded c upto x ≡ true → has_dirty w upto c x ≡ true
    up e =
        let any = any_of c content (is_cleanable upto) (λ y. int_lt x.0 y.0 && same_key y.1 x.1) e in
        let passes = any.passes in
        let reached = any.reached in
        let far = by_lt_z (last_offset any.has.batch) w (λ less. absurd (inside any.offset any.value any.has less any.passes)) (λ le. le) in
        any_by c content (is_dirty w upto) (λ y. same_key y.1 x.1) (record { offset = any.offset; value = any.value; has = any.has; reached = grind (arith, ints, far, reached); passes = grind (arith, passes) })
      where
        inside : (q : ℤ) (t : RecordValue) (later : HasRecord c.kept q t) → last_offset later.batch <ℤ w → (int_lt x.0 q && same_key t x.1) ≡ true → ⊥
        inside q t later less passes =
            let sup : is_superseded c w x ≡ true = any_by c content (is_cleanable w) (λ y. int_lt x.0 y.0 && same_key y.1 x.1) (record { offset = q; value = t; has = later; reached = grind (arith, ints, less); passes = passes }) in
            true≢false (sym sup ∙ swept_at w w c content settled x.0 x.1 has (omega (arith, ints, span, below)))

    down : has_dirty w upto c x ≡ true → is_superseded c upto x ≡ true
    down e =
        let any = any_of c content (is_dirty w upto) (λ y. same_key y.1 x.1) e in
        let reached = any.reached in
        let passes = any.passes in
        let far : w ≤ℤ last_offset any.has.batch = grind (arith, ints, reached) in
        let later = by_lt_z x.0 any.offset (λ less. less) (λ le. absurd (not_before any.offset any.value any.has far le)) in
        let before : int_lt x.0 any.offset ≡ true = grind (arith, ints, later) in
        any_by c content (is_cleanable upto) (λ y. int_lt x.0 y.0 && same_key y.1 x.1) (record { offset = any.offset; value = any.value; has = any.has; reached = grind (arith, reached); passes = grind (arith, before, passes) })
      where
        not_before : (q : ℤ) (t : RecordValue) (other : HasRecord c.kept q t) → w ≤ℤ last_offset other.batch → q ≤ℤ x.0 → ⊥
        not_before q t other far le = which (same_or_before c content x.0 q x.1 t has other le)
          where
            which : (has.batch ≡ other.batch) ⊎ (last_offset other.batch <ℤ first_offset has.batch) → ⊥
            which (inl same) = let ends : last_offset has.batch ≡ last_offset other.batch = ap last_offset same in omega (arith, ints, ends, far, below)
            which (inr before) = omega (arith, ints, before, span, below, far)

    one : is_superseded c upto x ≡ has_dirty w upto c x
    one = same_bool (is_superseded c upto x) (has_dirty w upto c x) up down

  pub dirty_tells : AllByRecursion (λ x. is_superseded c upto x ≡ has_dirty w upto c x) (log_records (filter (λ b. int_lt (last_offset b) w) c.kept))
  dirty_tells = all_from_at offset_in_log (λ (x : LogRecord). is_superseded c upto x ≡ has_dirty w upto c x) c.start (log_records (filter (λ b. int_lt (last_offset b) w) c.kept))
      (reached_rise c content (λ b. int_lt (last_offset b) w) (λ x. true))
      (λ x e. let of = of_reached c content (λ b. int_lt (last_offset b) w) (λ x. true) x e in let is = of.1 in one x of.0 (grind (arith, ints, is)))
