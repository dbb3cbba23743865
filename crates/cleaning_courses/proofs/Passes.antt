-- Behind a pass no record below where it has come to has a later one of its key below the pass's bound.
use Rattle.std.proofs.Common.{◌≡◌, ℕ, ℤ, true, ◌&&◌, List, [], ◌∷◌, Some, sym, ap, subst, ◌⊎◌, inl, inr, arith}
use Rattle.std.specs.Prelude.{◌≤ℤ◌, ◌<ℤ◌, int_lt}
use Rattle.std.specs.List.{filter}
use Rattle.std.proofs.lemmas.Int.{ints, by_lt_z}
use Rattle.batch_codec.specs.Values.{RecordValue, BatchValue}
use Rattle.batch_codec.specs.Offsets.{first_offset, last_offset}
use Rattle.content.specs.declared.part.CleaningPart.{CleaningPart}
use Rattle.content.specs.Records.{record_at, same_key}
use Rattle.content.specs.Content.{Content, IsContent, IsLogBatch, add, end}
use Rattle.content.specs.Cleaning.{is_cleanable, is_superseded}
use Rattle.content.specs.Parts.{is_in_part, is_removed_in_part, clean_part, NoneIsAcross}
use Rattle.content_laws.proofs.ByOffset.{all_at}
use Rattle.content_laws.proofs.Batches.{HasRecord}
use Rattle.content_laws.proofs.Sweeps.{held_in, to_reach, any_by, gone}
use Rattle.cleaning_courses.specs.Places.{IsBetweenBatches}
use Rattle.cleaning_courses.specs.Steps.{Step, content_after, HasComeTo, HasWholeEnds, IsCourse}
use Rattle.cleaning_courses.specs.Steps.Step.{Produce, Clean, ForeignClean, Fetch, Trim}
use Rattle.cleaning_courses.proofs.Appended.{add_is}
use Rattle.cleaning_courses.proofs.Contents.{held_from_start, batch_beside, part_held_before, held_before_it, end_later, held_before_cut, end_after_cut, course_content}

abbrev pub IsSettled : (upto place : ℤ) → Content → Type 0
IsSettled upto place c = (o q : ℤ) (r s : RecordValue) → record_at c.kept o ≡ Some r → record_at c.kept q ≡ Some s → same_key s r ≡ true → o <ℤ q → o <ℤ place → q <ℤ upto → ⊥

pub record IsPassed (upto place : ℤ) (c : Content) : Type 0 where
  pub settled : IsSettled upto place c
  pub reach : (place ≤ℤ c.start) ⊎ (upto ≤ℤ end c)

-- ---- fewer records, or none

fewer : (upto place : ℤ) (c now : Content) → ((o : ℤ) (r : RecordValue) → record_at now.kept o ≡ Some r → record_at c.kept o ≡ Some r) → IsSettled upto place c → IsSettled upto place now
fewer upto place c now before settled o q r s e f = settled o q r s (before o r e) (before q s f)

nearer : (upto place far : ℤ) (c : Content) → place ≤ℤ far → IsSettled upto far c → IsSettled upto place c
nearer upto place far c le settled o q r s e f same less below under = settled o q r s e f same less (omega (arith, ints, below, le)) under

none_below : (upto place : ℤ) (c : Content) → IsContent c → place ≤ℤ c.start → IsPassed upto place c
none_below upto place c content low = record {
  settled = λ o q r s e f same less below under. let from = held_from_start c content o r e in absurd (omega (arith, ints, from, below, low));
  reach = inl low;
}

-- ---- a part that begins where the pass has come to

module _ (p : CleaningPart) (c : Content) (content : IsContent c) (bound : IsBetweenBatches c p.upto) (ends : HasWholeEnds c p) (before : IsSettled p.upto p.from c) where
  cleanable : (o : ℤ) (r : RecordValue) (has : HasRecord c.kept o r) → o <ℤ p.upto → is_cleanable p.upto has.batch ≡ true
  cleanable o r has less = by (batch_beside c content p.upto o r has bound.none_across)
    where
      by : (last_offset has.batch <ℤ p.upto) ⊎ (p.upto ≤ℤ first_offset has.batch) → is_cleanable p.upto has.batch ≡ true
      by (inl below) = grind (arith, ints, below)
      by (inr above) = let from : first_offset has.batch ≤ℤ o = has.from in absurd (omega (arith, ints, above, from, less))

  beside : (k o : ℤ) (r : RecordValue) (has : HasRecord c.kept o r) → is_cleanable p.upto has.batch ≡ true → NoneIsAcross k (filter (is_cleanable p.upto) c.kept) → (last_offset has.batch <ℤ k) ⊎ (k ≤ℤ first_offset has.batch)
  beside k o r has is none = all_at first_offset (λ (b : BatchValue). (last_offset b <ℤ k) ⊎ (k ≤ℤ first_offset b)) (first_offset has.batch) (filter (is_cleanable p.upto) c.kept) has.batch none
      (to_reach c content (is_cleanable p.upto) (λ x. true) (first_offset has.batch) has.batch has.there is)

  in_part : (o : ℤ) (r : RecordValue) (has : HasRecord c.kept o r) → p.from ≤ℤ o → o <ℤ p.to → is_cleanable p.upto has.batch ≡ true → is_in_part p has.batch ≡ true
  in_part o r has low high is = by (beside p.from o r has is ends.0) (beside p.to o r has is ends.1)
    where
      from : first_offset has.batch ≤ℤ o
      from = has.from

      to : o ≤ℤ last_offset has.batch
      to = has.to

      by : (last_offset has.batch <ℤ p.from) ⊎ (p.from ≤ℤ first_offset has.batch) → (last_offset has.batch <ℤ p.to) ⊎ (p.to ≤ℤ first_offset has.batch) → is_in_part p has.batch ≡ true
      by (inl less) e = absurd (omega (arith, ints, less, to, low))
      by (inr le) (inr late) = absurd (omega (arith, ints, late, from, high))
      by (inr le) (inl less) = grind (arith, ints, le, less, is)

  pub part_settles : IsSettled p.upto p.to (clean_part p c)
  part_settles o q r s e f same less below under = by_lt_z o p.from
      (λ low. before o q r s old_r old_s same less low under)
      (λ from_on. gone (is_in_part p) (is_removed_in_part p c) c content o r has (in_part o r has from_on below mine) removed r e)
    where
      old_r : record_at c.kept o ≡ Some r
      old_r = part_held_before c content p o r e

      old_s : record_at c.kept q ≡ Some s
      old_s = part_held_before c content p q s f

      has : HasRecord c.kept o r
      has = held_in c content o r old_r

      mine : is_cleanable p.upto has.batch ≡ true
      mine = cleanable o r has (omega (arith, ints, less, under))

      later : HasRecord c.kept q s
      later = held_in c content q s old_s

      before_it : int_lt o q ≡ true
      before_it = grind (arith, ints, less)

      sup : is_superseded c p.upto (o, r) ≡ true
      sup = any_by c content (is_cleanable p.upto) (λ y. int_lt o y.0 && same_key y.1 r) (record { offset = q; value = s; has = later; reached = cleanable q s later under; passes = grind (arith, same, before_it) })

      removed : is_removed_in_part p c (o, r) ≡ true
      removed = grind (arith, sup)

-- ---- a batch at the end

module _ (upto place : ℤ) (c : Content) (b : BatchValue) (content : IsContent c) (log : IsLogBatch b) (at_end : first_offset b ≡ end c) (is : IsPassed upto place c) where
  same_start : (add c b).start ≡ c.start
  same_start = ap (λ (x : Content). x.start) (add_is c b content log at_end)

  appended_settled : (place ≤ℤ c.start) ⊎ (upto ≤ℤ end c) → IsContent (add c b) → IsSettled upto place (add c b)
  appended_settled (inl low) new o q r s e f same less below under =
      let from = held_from_start (add c b) new o r e in
      absurd (omega (arith, ints, from, below, low, same_start))
  appended_settled (inr far) new o q r s e f same less below under =
      let before_end : q <ℤ end c = omega (arith, ints, under, far) in
      is.settled o q r s (held_before_it c b content log at_end o r e (omega (arith, ints, less, before_end))) (held_before_it c b content log at_end q s f before_end) same less below under

  still_reaches : (place ≤ℤ c.start) ⊎ (upto ≤ℤ end c) → (place ≤ℤ (add c b).start) ⊎ (upto ≤ℤ end (add c b))
  still_reaches (inl low) = inl (omega (arith, ints, low, same_start))
  still_reaches (inr far) = let rises = end_later c b content log at_end in inr (omega (arith, ints, far, rises))

  pub passed_appended : IsContent (add c b) → IsPassed upto place (add c b)
  passed_appended new = record { settled = appended_settled is.reach new; reach = still_reaches is.reach }

-- ---- a course

pub passed : (keep : ℕ) (c : Content) (steps : List Step) (upto place : ℤ) → IsCourse keep c steps → HasComeTo upto c steps place → IsPassed upto place (content_after c steps)
passed keep c [] upto place course come = none_below upto place c course come
passed keep c (Produce t b ∷ before) upto place course come =
    passed_appended upto place (content_after c before) b (course_content keep c before course.2) course.0.0 course.0.1 (passed keep c before upto place course.2 come) (course_content keep c (Produce t b ∷ before) course)
passed keep c (Clean t p ∷ before) upto place course (inl come) =
    let old = passed keep c before upto place course.2 come in
    record { settled = fewer upto place (content_after c before) (clean_part p (content_after c before)) (part_held_before (content_after c before) (course_content keep c before course.2) p) old.settled; reach = old.reach }
passed keep c (Clean t p ∷ before) upto place course (inr come) =
    let old = passed keep c before upto p.from course.2 come.2 in
    let own : IsSettled p.upto p.from (content_after c before) = subst (λ (u : ℤ). IsSettled u p.from (content_after c before)) (sym come.0) old.settled in
    let now = part_settles p (content_after c before) (course_content keep c before course.2) course.0.0 course.0.1 own in
    let to : p.upto ≤ℤ end (content_after c before) = course.0.0.to_end in
    record {
      settled = subst (λ (u : ℤ). IsSettled u place (clean_part p (content_after c before))) come.0 (nearer p.upto place p.to (clean_part p (content_after c before)) come.1 now);
      reach = inr (subst (λ (u : ℤ). u ≤ℤ end (content_after c before)) come.0 to);
    }
passed keep c (ForeignClean t p ∷ before) upto place course come =
    let old = passed keep c before upto place course.2 come in
    record { settled = fewer upto place (content_after c before) (clean_part p (content_after c before)) (part_held_before (content_after c before) (course_content keep c before course.2) p) old.settled; reach = old.reach }
passed keep c (Fetch t x ∷ before) upto place course come =
    let old = passed keep c before upto place course.2 come in
    record { settled = old.settled; reach = old.reach }
passed keep c (Trim t s ∷ before) upto place course (inl come) =
    let old = passed keep c before upto place course.2 come in
    let content = course_content keep c before course.2 in
    record {
      settled = fewer upto place (content_after c before) (content_after c (Trim t s ∷ before)) (held_before_cut (content_after c before) s content course.0.0 course.0.1) old.settled;
      reach = still old.reach content;
    }
  where
    still : (place ≤ℤ (content_after c before).start) ⊎ (upto ≤ℤ end (content_after c before)) → IsContent (content_after c before) → (place ≤ℤ s) ⊎ (upto ≤ℤ end (content_after c (Trim t s ∷ before)))
    still (inl low) content = let later = course.0.0 in inl (omega (arith, ints, low, later))
    still (inr far) content = let rises = end_after_cut (content_after c before) s content course.0.0 course.0.1 in inr (omega (arith, ints, far, rises))
passed keep c (Trim t s ∷ before) upto place course (inr low) = none_below upto place (content_after c (Trim t s ∷ before)) (course_content keep c (Trim t s ∷ before) course) low
