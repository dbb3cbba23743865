-- What the steps of a course do to the records that a leader holds: they come at the end, and else only go.
use Rattle.std.proofs.Common.{◌≡◌, ℕ, ℤ, pos, ◌-ℤ◌, Bool, true, false, cond, List, [], ◌∷◌, ◌++◌, Option, Some, None, refl, sym, ap, ◌∙◌, ◌⊎◌, inl, inr, arith}
use Rattle.std.specs.Prelude.{◌≤ℤ◌, ◌<ℤ◌, int_le}
use Rattle.std.specs.List.{AllByRecursion}
use Rattle.std.specs.Option.{option_or}
use Rattle.std.proofs.lemmas.Int.{ints, by_lt_z}
use Rattle.batch_codec.specs.Values.{RecordValue, BatchValue}
use Rattle.batch_codec.specs.Offsets.{first_offset, last_offset, SpansRise}
use Rattle.cover_ranges.proofs.RunsFrom.{canonical_from}
use Rattle.content.specs.declared.part.CleaningPart.{CleaningPart}
use Rattle.content.specs.ByOffset.{look_up, Rises}
use Rattle.content.specs.Records.{LogRecord, log_records, record_at, record_at_delta, IsKeepable}
use Rattle.content.specs.Content.{Content, IsContent, IsLogBatch, add, cut, end}
use Rattle.content.specs.Parts.{is_in_part, is_removed_in_part, clean_part, NoneIsAcross}
use Rattle.content_laws.proofs.ByOffset.{look_up-filter_offset, all_at}
use Rattle.content_laws.proofs.Batches.{record_at-cons, record_below, HasRecord, placed_rises}
use Rattle.content_laws.proofs.ContentSteps.{content_cut, content_part}
use Rattle.content_laws.proofs.Tables.{offset_in_log}
use Rattle.content_laws.proofs.CopyFacts.{record_of_look_up}
use Rattle.content_laws.proofs.Sweeps.{held, held_in, held_old}
use Rattle.cleaning_policy.specs.Readers.{IsAmong}
use Rattle.cleaning_courses.specs.Places.{IsBetweenBatches}
use Rattle.cleaning_courses.specs.Steps.{Step, content_after, MayFollow, IsCourse}
use Rattle.cleaning_courses.specs.Steps.Step.{Produce, Clean, ForeignClean, Fetch, Trim}
use Rattle.cleaning_courses.proofs.Lists.{rises-among, among-found}
use Rattle.cleaning_courses.proofs.Ends.{end_of_cut, end_in_range}
use Rattle.cleaning_courses.proofs.Keyed.{Batches}
use Rattle.cleaning_courses.proofs.Appended.{kept_below_end, ends_behind, content_appended, last_below_end, kept_appended}

none_some : {X : Type 0} (o : Option X) (x : X) → o ≡ None → o ≡ Some x → ⊥
none_some o x e f = cc

record_at-append : (o : ℤ) (bs cs : Batches) → record_at (bs ++ cs) o ≡ option_or (record_at bs o) (record_at cs o)
record_at-append o [] cs = refl
record_at-append o (b ∷ bs) cs =
    record_at-cons o b (bs ++ cs) ∙ ap (option_or (record_at_delta (o -ℤ first_offset b) b)) (record_at-append o bs cs)
    ∙ by (record_at_delta (o -ℤ first_offset b) b) ∙ ap (λ (z : Option RecordValue). option_or z (record_at cs o)) (sym (record_at-cons o b bs))
  where
    by : (z : Option RecordValue) → option_or z (option_or (record_at bs o) (record_at cs o)) ≡ option_or (option_or z (record_at bs o)) (record_at cs o)
    by None = refl
    by (Some r) = refl

-- a record among those of some batches, by its offset
pub among_held : (low : ℤ) (bs : Batches) (x : LogRecord) → SpansRise low bs → AllByRecursion IsKeepable bs → IsAmong x (log_records bs) → (record_at bs x.0 ≡ Some x.1) × (low ≤ℤ x.0)
among_held low bs x spans keepable i =
    let rise : Rises offset_in_log low (log_records bs) = placed_rises low bs spans keepable in
    (record_of_look_up x.0 bs x (among-found offset_in_log low (log_records bs) x rise i), rises-among offset_in_log low (log_records bs) x rise i)

module _ (c : Content) (content : IsContent c) where
  pub held_from_start : (o : ℤ) (r : RecordValue) → record_at c.kept o ≡ Some r → c.start ≤ℤ o
  held_from_start o r e = by_lt_z o c.start (λ less. absurd (none_some (record_at c.kept o) r (record_below c.start o c.kept content.disjoint content.keepable less) e)) (λ le. le)

  pub held_below_end : (o : ℤ) (r : RecordValue) → record_at c.kept o ≡ Some r → o <ℤ end c
  held_below_end o r e =
      let has = held_in c content o r e in
      let to : o ≤ℤ last_offset has.batch = has.to in
      let ends : last_offset has.batch <ℤ end c = all_at first_offset (λ (b : BatchValue). last_offset b <ℤ end c) (first_offset has.batch) c.kept has.batch (kept_below_end c content) has.there in
      omega (arith, ints, to, ends)

  -- where a held record's batch lies, if none lies across an offset
  pub batch_beside : (p o : ℤ) (r : RecordValue) (has : HasRecord c.kept o r) → NoneIsAcross p c.kept → (last_offset has.batch <ℤ p) ⊎ (p ≤ℤ first_offset has.batch)
  batch_beside p o r has none = all_at first_offset (λ (b : BatchValue). (last_offset b <ℤ p) ⊎ (p ≤ℤ first_offset b)) (first_offset has.batch) c.kept has.batch none has.there

  pub part_held_before : (p : CleaningPart) (o : ℤ) (r : RecordValue) → record_at (clean_part p c).kept o ≡ Some r → record_at c.kept o ≡ Some r
  part_held_before p o r e = held_old (is_in_part p) (is_removed_in_part p c) c content o r e

-- ---- a batch at the end

module _ (c : Content) (b : BatchValue) (content : IsContent c) (log : IsLogBatch b) (at_end : first_offset b ≡ end c) where
  own_spans : SpansRise (first_offset b) (b ∷ [])
  own_spans = (omega (arith, ints), tt)

  own_keepable : AllByRecursion IsKeepable (b ∷ [])
  own_keepable = ((log.writable, log.keys), tt)

  appended_is : (o : ℤ) → record_at (add c b).kept o ≡ option_or (record_at c.kept o) (record_at (b ∷ []) o)
  appended_is o = ap (λ (bs : Batches). record_at bs o) (kept_appended c b content log at_end) ∙ record_at-append o c.kept (b ∷ [])

  pub held_stays : (o : ℤ) (r : RecordValue) → record_at c.kept o ≡ Some r → record_at (add c b).kept o ≡ Some r
  held_stays o r e = appended_is o ∙ ap (λ (z : Option RecordValue). option_or z (record_at (b ∷ []) o)) e

  or_none : (z : Option RecordValue) → option_or z None ≡ z
  or_none None = refl
  or_none (Some r) = refl

  pub held_before_it : (o : ℤ) (r : RecordValue) → record_at (add c b).kept o ≡ Some r → o <ℤ end c → record_at c.kept o ≡ Some r
  held_before_it o r e less =
      let none : record_at (b ∷ []) o ≡ None = record_below (first_offset b) o (b ∷ []) own_spans own_keepable (omega (arith, ints, less, at_end)) in
      sym (or_none (record_at c.kept o)) ∙ ap (option_or (record_at c.kept o)) (sym none) ∙ sym (appended_is o) ∙ e

  pub new_held : (z : LogRecord) → IsAmong z (log_records (b ∷ [])) → record_at (add c b).kept z.0 ≡ Some z.1
  new_held z i = by (record_at c.kept z.0) refl
    where
      own : (record_at (b ∷ []) z.0 ≡ Some z.1) × (first_offset b ≤ℤ z.0)
      own = among_held (first_offset b) (b ∷ []) z own_spans own_keepable i

      by : (o : Option RecordValue) → record_at c.kept z.0 ≡ o → record_at (add c b).kept z.0 ≡ Some z.1
      by None e = appended_is z.0 ∙ ap (λ (o : Option RecordValue). option_or o (record_at (b ∷ []) z.0)) e ∙ own.0
      by (Some r) e = let less = held_below_end c content z.0 r e in let from = own.1 in absurd (omega (arith, ints, less, from, at_end))

  pub end_later : end c ≤ℤ end (add c b)
  end_later =
      let spans = ends_behind c b content log at_end in
      let ends = last_below_end c b content log at_end in
      omega (arith, ints, spans, ends, at_end)

-- ---- a later start

module _ (c : Content) (s : ℤ) (content : IsContent c) (le : c.start ≤ℤ s) (between : IsBetweenBatches c s) where
  pub content_later : IsContent (cut s c)
  content_later =
      let most = end_in_range c.start (pos 0) c.cover content.in_range.1 (canonical_from c.cover content.canonical) in
      let to : s ≤ℤ end c = between.to_end in
      content_cut c s content le (omega (arith, ints, to, most))

  pub end_after_cut : end c ≤ℤ end (cut s c)
  end_after_cut = end_of_cut c.start s s c.cover le (omega (arith, ints))

  pub held_before_cut : (o : ℤ) (r : RecordValue) → record_at (cut s c).kept o ≡ Some r → record_at c.kept o ≡ Some r
  held_before_cut o r e = held c content o r (record { batch = has.batch; there = there; from = has.from; to = has.to; here = has.here })
    where
      has : HasRecord (cut s c).kept o r
      has = held_in (cut s c) content_later o r e

      by : (t : Bool) → cond t (look_up first_offset (first_offset has.batch) c.kept) None ≡ Some has.batch → look_up first_offset (first_offset has.batch) c.kept ≡ Some has.batch
      by true f = f
      by false f = absurd cc

      there : look_up first_offset (first_offset has.batch) c.kept ≡ Some has.batch
      there = by (int_le s (first_offset has.batch)) (sym (look_up-filter_offset first_offset (int_le s) (first_offset has.batch) c.kept) ∙ has.there)

  pub held_after_cut : (o : ℤ) (r : RecordValue) → record_at c.kept o ≡ Some r → s ≤ℤ o → record_at (cut s c).kept o ≡ Some r
  held_after_cut o r e from_on = held (cut s c) content_later o r (record { batch = has.batch; there = there; from = has.from; to = has.to; here = has.here })
    where
      has : HasRecord c.kept o r
      has = held_in c content o r e

      late : (last_offset has.batch <ℤ s) ⊎ (s ≤ℤ first_offset has.batch) → int_le s (first_offset has.batch) ≡ true
      late (inl less) = let to : o ≤ℤ last_offset has.batch = has.to in absurd (omega (arith, ints, less, to, from_on))
      late (inr begins) = grind (arith, ints, begins)

      there : look_up first_offset (first_offset has.batch) (cut s c).kept ≡ Some has.batch
      there = look_up-filter_offset first_offset (int_le s) (first_offset has.batch) c.kept
          ∙ ap (λ (t : Bool). cond t (look_up first_offset (first_offset has.batch) c.kept) None) (late (batch_beside c content s o r has between.none_across)) ∙ has.there

-- ---- a course

pub content_follows : (keep : ℕ) (c : Content) (before : List Step) (a : Step) → MayFollow keep c before a → IsContent (content_after c before) → IsContent (content_after c (a ∷ before))
content_follows keep c before (Produce t b) may content = content_appended (content_after c before) b content may.0 may.1
content_follows keep c before (Clean t p) may content = content_part p (content_after c before) content
content_follows keep c before (ForeignClean t p) may content = content_part p (content_after c before) content
content_follows keep c before (Fetch t x) may content = content
content_follows keep c before (Trim t s) may content = content_later (content_after c before) s content may.0 may.1

pub course_content : (keep : ℕ) (c : Content) (steps : List Step) → IsCourse keep c steps → IsContent (content_after c steps)
course_content keep c [] course = course
course_content keep c (a ∷ before) course = content_follows keep c before a course.0 (course_content keep c before course.2)

pub course_before : (keep : ℕ) (c : Content) (since before : List Step) → IsCourse keep c (since ++ before) → IsCourse keep c before
course_before keep c [] before course = course
course_before keep c (a ∷ since) before course = course_before keep c since before course.2

z_refl : (a : ℤ) → a ≤ℤ a
z_refl a = omega (arith, ints)

end_follows : (keep : ℕ) (c : Content) (before : List Step) (a : Step) → MayFollow keep c before a → IsContent (content_after c before) → end (content_after c before) ≤ℤ end (content_after c (a ∷ before))
end_follows keep c before (Produce t b) may content = end_later (content_after c before) b content may.0 may.1
end_follows keep c before (Clean t p) may content = z_refl (end (content_after c before))
end_follows keep c before (ForeignClean t p) may content = z_refl (end (content_after c before))
end_follows keep c before (Fetch t x) may content = z_refl (end (content_after c before))
end_follows keep c before (Trim t s) may content = end_after_cut (content_after c before) s content may.0 may.1

pub end_rises : (keep : ℕ) (c : Content) (since before : List Step) → IsCourse keep c (since ++ before) → end (content_after c before) ≤ℤ end (content_after c (since ++ before))
end_rises keep c [] before course = z_refl (end (content_after c before))
end_rises keep c (a ∷ since) before course =
    let rest = end_rises keep c since before course.2 in
    let last = end_follows keep c (since ++ before) a course.0 (course_content keep c (since ++ before) course.2) in
    omega (arith, ints, rest, last)

-- a record that is held behind a step, below the end before it, was held before it
was_held : (keep : ℕ) (c : Content) (before : List Step) (a : Step) (o : ℤ) (r : RecordValue) → MayFollow keep c before a → IsContent (content_after c before) → record_at (content_after c (a ∷ before)).kept o ≡ Some r → o <ℤ end (content_after c before) → record_at (content_after c before).kept o ≡ Some r
was_held keep c before (Produce t b) o r may content e less = held_before_it (content_after c before) b content may.0 may.1 o r e less
was_held keep c before (Clean t p) o r may content e less = part_held_before (content_after c before) content p o r e
was_held keep c before (ForeignClean t p) o r may content e less = part_held_before (content_after c before) content p o r e
was_held keep c before (Fetch t x) o r may content e less = e
was_held keep c before (Trim t s) o r may content e less = held_before_cut (content_after c before) s content may.0 may.1 o r e

pub held_since : (keep : ℕ) (c : Content) (since before : List Step) (o : ℤ) (r : RecordValue) → IsCourse keep c (since ++ before) → record_at (content_after c (since ++ before)).kept o ≡ Some r → o <ℤ end (content_after c before) → record_at (content_after c before).kept o ≡ Some r
held_since keep c [] before o r course e less = e
held_since keep c (a ∷ since) before o r course e less =
    let rises = end_rises keep c since before course.2 in
    held_since keep c since before o r course.2 (was_held keep c (since ++ before) a o r course.0 (course_content keep c (since ++ before) course.2) e (omega (arith, ints, less, rises))) less
