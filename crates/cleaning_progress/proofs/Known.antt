-- What is known stays known.
use Rattle.std.proofs.Common.{◌≡◌, ◌^◌, ◌⊎◌, inl, inr, ℕ, ℤ, pos, Bool, true, false, cond, ◌&&◌, ◌||◌, List, Option, Some, None, refl, sym, subst, ◌∙◌, true≢false, arith}
use Rattle.std.specs.Prelude.{◌≤ℤ◌, ◌<ℤ◌, int_lt, int_le, if◌then◌else◌}
use Rattle.std.specs.Int.{int_min, int_max}
use Rattle.std.specs.List.{AllByRecursion, filter}
use Rattle.std.proofs.lemmas.Int.{ints, clamps, by_lt_z}
use Rattle.batch_codec.specs.Values.{RecordValue, BatchValue}
use Rattle.batch_codec.specs.Offsets.{first_offset, last_offset}
use Rattle.content.specs.declared.part.CleaningPart.{CleaningPart}
use Rattle.content.specs.Records.{LogRecord, log_records, same_key}
use Rattle.content.specs.Content.{Content, IsContent, IsLogBatch, has_seen_all, HasSeenNone, with_batch, add, cut}
use Rattle.content.specs.Cleaning.{is_cleanable, is_superseded}
use Rattle.content.specs.Parts.{clean_part, NoneIsAcross}
use Rattle.content_laws.proofs.ByOffset.{all_at, all_from_at}
use Rattle.content_laws.proofs.Batches.{HasRecord, placed_rises}
use Rattle.content_laws.proofs.ContentSteps.{content_cut, content_part, content_with_batch, both_bools}
use Rattle.content_laws.proofs.CopyFacts.{record_of_look_up, look_up_of_record}
use Rattle.content_laws.proofs.Tables.{offset_in_log}
use Rattle.content_laws.proofs.Sweeps.{held, held_in, any_of}
use Rattle.swept_contents.specs.Swept.{IsSwept, IsSettled, is_before}
use Rattle.swept_contents.proofs.Reading.{never, swept_at, WasIn}
use Rattle.swept_contents.proofs.KeptSwept.{less_swept, cut_keeps, late_keeps, cut_was, part_keeps, was_there}
use Rattle.swept_contents.proofs.SweptParts.{start_is_swept, part_was, part_sweeps}
use Rattle.swept_contents.proofs.StaySuperseded.{cut_stays, part_stays, batch_stays}
use Rattle.newest_keys.specs.Newest.{Newest, no_keys}
use Rattle.cleaning_progress.specs.Progress.{Known, found, Tells, newest_of, IsKnownOf, first_marks, marks_below, are_swept, marks_swept, marks_after}
use Rattle.cleaning_progress.specs.declared.marks.Marks.{Marks}
use Rattle.newest_keys.specs.Shards.{Shards}

-- ---- each record of a content

pub all_records : (c : Content) → IsContent c → (P : LogRecord → Type 0) → ((x : LogRecord) → HasRecord c.kept x.0 x.1 → P x) → AllByRecursion P (log_records c.kept)
all_records c content P each = all_from_at offset_in_log P c.start (log_records c.kept) (placed_rises c.start c.kept content.disjoint content.keepable) (λ x e. each x (held_in c content x.0 x.1 (record_of_look_up x.0 c.kept x e)))

pub at_record : (c : Content) → IsContent c → (P : LogRecord → Type 0) → AllByRecursion P (log_records c.kept) → (o : ℤ) (r : RecordValue) → HasRecord c.kept o r → P (o, r)
at_record c content P all o r has = all_at offset_in_log P o (log_records c.kept) (o, r) all (look_up_of_record o c.kept r (held c content o r has))

-- what tells of a content tells of what is left of it, where what is left is superseded as before
pub still_tells : (newest : Newest) (bound : ℤ) (now c : Content) → IsContent now → IsContent c → WasIn now c
    → AllByRecursion (λ x. is_superseded now bound x ≡ is_superseded c bound x) (log_records now.kept) → Tells newest bound c → Tells newest bound now
still_tells newest bound now c is_now content was same tells = all_records now is_now (λ x. is_superseded now bound x ≡ is_before x.0 (found newest x.1.key))
    (λ x has. at_record now is_now (λ y. is_superseded now bound y ≡ is_superseded c bound y) same x.0 x.1 has
    ∙ at_record c content (λ y. is_superseded c bound y ≡ is_before y.0 (found newest y.1.key)) tells x.0 x.1 (was x.0 x.1 has).has)

-- ---- without a map

-- what is settled is told of by no map
pub settled_tells : (w : ℤ) (c : Content) → IsContent c → IsSettled w c → Tells no_keys w c
settled_tells w c content settled = all_records c content (λ x. is_superseded c w x ≡ is_before x.0 (found no_keys x.1.key)) each
  where
    no_offset : (o : ℤ) (key : Option (List ℕ)) → is_before o (found no_keys key) ≡ false
    no_offset o None = refl
    no_offset o (Some k) = refl

    -- a record that is superseded by a batch below lies below too
    late : (x : LogRecord) → HasRecord c.kept x.0 x.1 → is_superseded c w x ≡ true → ⊥
    late x has e =
        let any = any_of c content (is_cleanable w) (λ y. int_lt x.0 y.0 && same_key y.1 x.1) e in
        let passes = any.passes in
        let reached = any.reached in
        let behind : x.0 <ℤ any.offset = grind (arith, ints, passes) in
        let below : last_offset any.has.batch <ℤ w = grind (arith, ints, reached) in
        let from : first_offset has.batch ≤ℤ x.0 = has.from in
        let to : any.offset ≤ℤ last_offset any.has.batch = any.has.to in
        true≢false (sym e ∙ swept_at w w c content settled x.0 x.1 has (omega (arith, ints, behind, below, from, to)))

    each : (x : LogRecord) → HasRecord c.kept x.0 x.1 → is_superseded c w x ≡ is_before x.0 (found no_keys x.1.key)
    each x has = never (is_superseded c w x) (late x has) ∙ sym (no_offset x.0 x.1.key)

-- ---- at first

pub known_at_first : (start : ℤ) (c : Content) → IsContent c → start ≤ℤ c.start → IsKnownOf c (record { marks = first_marks start; known_to = start; newest = None })
known_at_first start c content low =
    let swept = start_is_swept start start c content low in
    record { settled = swept; swept = swept; tells = settled_tells start c content swept; below = λ key o e. absurd cc }

pub without_keys : (c : Content) (k : Known) → IsContent c → IsKnownOf c k → IsKnownOf c (record k { known_to = k.marks.settled; newest = None })
without_keys c k content is = record { settled = is.settled; swept = is.swept; tells = settled_tells k.marks.settled c content is.settled; below = λ key o e. absurd cc }

-- ---- a later start

pub known_when_cut : (k : Known) (start : ℤ) (c : Content) → IsContent c → c.start ≤ℤ start → start ≤ℤ pos (2 ^ 62) → IsKnownOf c k → IsKnownOf (cut start c) k
known_when_cut k start c content later most is = record {
  settled = cut_keeps k.marks.settled k.marks.settled start c content later most is.settled;
  swept = cut_keeps k.marks.swept k.marks.swept_for start c content later most is.swept;
  tells = still_tells (newest_of k.newest) k.known_to (cut start c) c (content_cut c start content later most) content (cut_was start c) (cut_stays k.known_to start c content later most) is.tells;
  below = is.below;
}

-- ---- a part

pub none_older : (p : CleaningPart) (k : Known) (c : Content) → are_swept p k.marks ≡ true → IsContent c → IsKnownOf c k → IsSwept p.from p.upto c
none_older p k c are content is =
    let from : p.from ≤ℤ k.marks.swept = grind (arith, ints, are) in
    let upto : p.upto ≤ℤ k.marks.swept_for = grind (arith, ints, are) in
    less_swept k.marks.swept k.marks.swept_for p.from p.upto c content is.swept from upto

module _ (p : CleaningPart) (k : Known) (c : Content) (content : IsContent c) (is : IsKnownOf c k) where
  part_content : IsContent (clean_part p c)
  part_content = content_part p c content

  -- a part leaves what is known, but for a map that reaches less far than its bound
  pub known_by_part : p.upto ≤ℤ k.known_to → IsKnownOf (clean_part p c) k
  known_by_part less = record {
    settled = part_keeps k.marks.settled k.marks.settled p c content is.settled;
    swept = part_keeps k.marks.swept k.marks.swept_for p c content is.swept;
    tells = still_tells (newest_of k.newest) k.known_to (clean_part p c) c part_content content (part_was p c content) (part_stays k.known_to p c content less) is.tells;
    below = is.below;
  }

  pub marks_by_part : IsKnownOf (clean_part p c) (record k { known_to = k.marks.settled; newest = None })
  marks_by_part =
      let settled = part_keeps k.marks.settled k.marks.settled p c content is.settled in
      record {
        settled = settled;
        swept = part_keeps k.marks.swept k.marks.swept_for p c content is.swept;
        tells = settled_tells k.marks.settled (clean_part p c) part_content settled;
        below = λ key o e. absurd cc;
      }

-- ---- a batch more

module _ (k : Known) (c : Content) (b : BatchValue) (base : ℤ) (content : IsContent c) (log : IsLogBatch b) (which : (has_seen_all c b ≡ true) ⊎ HasSeenNone c b) (at : base ≡ first_offset b) (is : IsKnownOf c k) where
  added_content : IsContent (add c b)
  added_content = by (has_seen_all c b) refl which
    where
      by : (t : Bool) → has_seen_all c b ≡ t → (has_seen_all c b ≡ true) ⊎ HasSeenNone c b → IsContent (cond t c (with_batch c b))
      by true e w = content
      by false e (inl all) = absurd (both_bools (has_seen_all c b) all e)
      by false e (inr none) = content_with_batch c b content log none

  settled_then : IsSettled (int_min k.marks.settled base) (add c b)
  settled_then = subst (λ (o : ℤ). IsSettled (int_min k.marks.settled o) (add c b)) (sym at) (late_keeps k.marks.settled k.marks.settled c b content log is.settled which)

  swept_then : IsSwept (int_min k.marks.swept base) (int_min k.marks.swept_for base) (add c b)
  swept_then = subst (λ (o : ℤ). IsSwept (int_min k.marks.swept o) (int_min k.marks.swept_for o) (add c b)) (sym at) (late_keeps k.marks.swept k.marks.swept_for c b content log is.swept which)

  pub known_late : IsKnownOf (add c b) (record { marks = marks_below base k.marks; known_to = (marks_below base k.marks).settled; newest = None })
  known_late = record { settled = settled_then; swept = swept_then; tells = settled_tells (int_min k.marks.settled base) (add c b) added_content settled_then; below = λ key o e. absurd cc }

  pub known_behind : k.known_to ≤ℤ base → IsKnownOf (add c b) (record k { marks = marks_below base k.marks })
  known_behind less = record {
    settled = settled_then;
    swept = swept_then;
    tells = all_records (add c b) added_content (λ x. is_superseded (add c b) k.known_to x ≡ is_before x.0 (found (newest_of k.newest) x.1.key)) each;
    below = is.below;
  }
    where
      from : k.known_to ≤ℤ first_offset b
      from = omega (arith, ints, less, at)

      not_before : (o : ℤ) (key : Option (List ℕ)) → k.known_to ≤ℤ o → is_before o (found (newest_of k.newest) key) ≡ false
      not_before o None late = refl
      not_before o (Some key) late = by (newest_of k.newest key) refl
        where
          by : (q : Option ℤ) → newest_of k.newest key ≡ q → is_before o q ≡ false
          by None e = refl
          by (Some q) e = let low = is.below key q e in grind (arith, ints, low, late)

      -- nothing below supersedes what is new
      new_stays : (x : LogRecord) → first_offset b ≤ℤ x.0 → is_superseded c k.known_to x ≡ true → ⊥
      new_stays x late e =
          let any = any_of c content (is_cleanable k.known_to) (λ y. int_lt x.0 y.0 && same_key y.1 x.1) e in
          let passes = any.passes in
          let reached = any.reached in
          let behind : x.0 <ℤ any.offset = grind (arith, ints, passes) in
          let under : last_offset any.has.batch <ℤ k.known_to = grind (arith, ints, reached) in
          let to : any.offset ≤ℤ last_offset any.has.batch = any.has.to in
          omega (arith, ints, behind, under, to, from, late)

      -- what begins before the batch was there
      was : (x : LogRecord) → HasRecord (add c b).kept x.0 x.1 → x.0 <ℤ first_offset b → HasRecord c.kept x.0 x.1
      was x has less = by (has_seen_all c b) has
        where
          by : (t : Bool) → HasRecord (cond t c (with_batch c b)).kept x.0 x.1 → HasRecord c.kept x.0 x.1
          by true h = h
          by false h =
              let begins : first_offset h.batch ≤ℤ x.0 = h.from in
              record { batch = h.batch; there = was_there c b h.batch (λ same other. omega (arith, ints, same, begins, less)) h.there; from = h.from; to = h.to; here = h.here }

      each : (x : LogRecord) → HasRecord (add c b).kept x.0 x.1 → is_superseded (add c b) k.known_to x ≡ is_before x.0 (found (newest_of k.newest) x.1.key)
      each x has = batch_stays k.known_to c b x content log which from ∙ by_lt_z x.0 (first_offset b)
          (λ low. at_record c content (λ y. is_superseded c k.known_to y ≡ is_before y.0 (found (newest_of k.newest) y.1.key)) is.tells x.0 x.1 (was x has low))
          (λ late. never (is_superseded c k.known_to x) (new_stays x late) ∙ sym (not_before x.0 x.1.key (omega (arith, ints, from, late))))

-- ---- a part that sweeps on

module _ (p : CleaningPart) (k : Known) (start : ℤ) (c : Content) (content : IsContent c) (low : start ≤ℤ c.start) (is : IsKnownOf c k) (none : NoneIsAcross p.to (filter (is_cleanable p.upto) c.kept)) (on : (p.from ≤ℤ start) ⊎ (are_swept p k.marks ≡ true)) where
  swept_to : IsSwept p.to p.upto (clean_part p c)
  swept_to = part_sweeps p c content (by on) none
    where
      by : (p.from ≤ℤ start) ⊎ (are_swept p k.marks ≡ true) → IsSwept p.from p.upto c
      by (inl first) = start_is_swept p.from p.upto c content (omega (arith, ints, first, low))
      by (inr are) = none_older p k c are content is

  settled_to : IsSettled (marks_swept p k.marks).settled (clean_part p c)
  settled_to = by (int_le p.upto p.to) refl
    where
      before : IsSettled k.marks.settled (clean_part p c)
      before = part_keeps k.marks.settled k.marks.settled p c content is.settled

      by : (t : Bool) → int_le p.upto p.to ≡ t → IsSettled (if t then int_max k.marks.settled p.upto else k.marks.settled) (clean_part p c)
      by false e = before
      by true e = by_lt_z k.marks.settled p.upto
          (λ less. subst (λ (o : ℤ). IsSettled o (clean_part p c)) (upper less) (less_swept p.to p.upto p.upto p.upto (clean_part p c) (part_content p k c content is) swept_to (grind (arith, ints, e)) (omega (arith, ints))))
          (λ le. subst (λ (o : ℤ). IsSettled o (clean_part p c)) (lower le) before)
        where
          upper : k.marks.settled <ℤ p.upto → p.upto ≡ int_max k.marks.settled p.upto
          upper less = omega (arith, ints, clamps, less)

          lower : p.upto ≤ℤ k.marks.settled → k.marks.settled ≡ int_max k.marks.settled p.upto
          lower le = omega (arith, ints, clamps, le)

  pub known_on : p.upto ≤ℤ k.known_to → IsKnownOf (clean_part p c) (record k { marks = marks_swept p k.marks })
  known_on less =
      let same = known_by_part p k c content is less in
      record { settled = settled_to; swept = swept_to; tells = same.tells; below = same.below }

  pub marks_on : IsKnownOf (clean_part p c) (record { marks = marks_swept p k.marks; known_to = (marks_swept p k.marks).settled; newest = None })
  marks_on = record { settled = settled_to; swept = swept_to; tells = settled_tells (marks_swept p k.marks).settled (clean_part p c) (part_content p k c content is) settled_to; below = λ key o e. absurd cc }

-- behind a part
module _ (p : CleaningPart) (k : Known) (start : ℤ) (is_clear : Bool) (c : Content) (content : IsContent c) (low : start ≤ℤ c.start) (none : is_clear ≡ true → NoneIsAcross p.to (filter (is_cleanable p.upto) c.kept)) (is : IsKnownOf c k) where
  goes_on : (is_clear && (int_le p.from start || are_swept p k.marks)) ≡ true → (is_clear ≡ true) × ((p.from ≤ℤ start) ⊎ (are_swept p k.marks ≡ true))
  goes_on e = (grind (arith, e), by (int_le p.from start) refl)
    where
      by : (t : Bool) → int_le p.from start ≡ t → (p.from ≤ℤ start) ⊎ (are_swept p k.marks ≡ true)
      by true f = inl (grind (arith, ints, f))
      by false f = inr (grind (arith, e, f))

  pub known_after : p.upto ≤ℤ k.known_to → IsKnownOf (clean_part p c) (record k { marks = marks_after p start is_clear k.marks })
  known_after less = by (is_clear && (int_le p.from start || are_swept p k.marks)) refl
    where
      by : (t : Bool) → (is_clear && (int_le p.from start || are_swept p k.marks)) ≡ t → IsKnownOf (clean_part p c) (record k { marks = if t then marks_swept p k.marks else k.marks })
      by true e = let on = goes_on e in known_on p k start c content low is (none on.0) on.1 less
      by false e = known_by_part p k c content is less

  pub marks_behind : IsKnownOf (clean_part p c) (record { marks = marks_after p start is_clear k.marks; known_to = (marks_after p start is_clear k.marks).settled; newest = None })
  marks_behind = by (is_clear && (int_le p.from start || are_swept p k.marks)) refl
    where
      by : (t : Bool) → (is_clear && (int_le p.from start || are_swept p k.marks)) ≡ t
          → IsKnownOf (clean_part p c) (record { marks = if t then marks_swept p k.marks else k.marks; known_to = (if t then marks_swept p k.marks else k.marks).settled; newest = None })
      by true e = let on = goes_on e in marks_on p k start c content low is (none on.0) on.1
      by false e = marks_by_part p k c content is

-- ---- as the code has it

-- parts of what is known, as they were computed
pub known_parts : (c : Content) (marks marks' : Marks) (to to' : ℤ) (newest : Option Shards) → marks' ≡ marks → to' ≡ to → IsKnownOf c (record { marks = marks; known_to = to; newest = newest }) → IsKnownOf c (record { marks = marks'; known_to = to'; newest = newest })
known_parts c marks marks' to to' newest same there is = (
    subst (λ (m : Marks). IsKnownOf c (record { marks = m; known_to = to'; newest = newest })) (sym same)
    (subst (λ (o : ℤ). IsKnownOf c (record { marks = marks; known_to = o; newest = newest })) (sym there) is)
    )
