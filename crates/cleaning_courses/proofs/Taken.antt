-- Of each record that there ever was a leader has it or a later one of its key; or its start has moved past it; or a cleaning took
-- the key's last one then, a deletion, and with it all that were left of the key.
use Rattle.std.proofs.Common.{◌≡◌, ℕ, ℤ, pos, Bool, true, false, ◌&&◌, List, [], ◌∷◌, ◌++◌, Some, None, refl, sym, ap, subst, ◌∙◌, ◌⊎◌, inl, inr, arith}
use Rattle.std.specs.Prelude.{◌≤ℤ◌, ◌<ℤ◌, int_lt}
use Rattle.std.specs.Ordering.{int_eq}
use Rattle.std.proofs.lemmas.Int.{ints, by_lt_z}
use Rattle.batch_codec.specs.Values.{RecordValue, BatchValue}
use Rattle.content.specs.declared.part.CleaningPart.{CleaningPart}
use Rattle.content.specs.Records.{LogRecord, log_records, record_at, same_key, equal_keys}
use Rattle.content.specs.Content.{Content, IsContent}
use Rattle.content.specs.Cleaning.{is_cleanable, is_superseded}
use Rattle.content.specs.Parts.{is_in_part, is_expired_in_part, is_removed_in_part, clean_part}
use Rattle.content_laws.proofs.Batches.{HasRecord}
use Rattle.content_laws.proofs.CopyFacts.{look_up_of_record}
use Rattle.content_laws.proofs.Tables.{offset_in_log}
use Rattle.content_laws.proofs.Sweeps.{held, held_in, any_of, still_in, still_unreached, still_held, gone}
use Rattle.content_laws.proofs.CopyClean.{IsSuperseded, IsLastTombstone, part_safe}
use Rattle.cleaning_policy.specs.Readers.{IsAmong}
use Rattle.cleaning_courses.specs.Steps.{Step, HasItOrLater, content_after, batches_ever, MayFollow, IsCourse}
use Rattle.cleaning_courses.specs.Steps.Step.{Produce, Clean, ForeignClean, Fetch, Trim}
use Rattle.cleaning_courses.proofs.Lists.{found-among}
use Rattle.cleaning_courses.proofs.Keyed.{key_of}
use Rattle.cleaning_courses.proofs.Appended.{add_is}
use Rattle.cleaning_courses.proofs.Latest.{IsLastOf, last_of, either_batches}
use Rattle.cleaning_courses.proofs.Contents.{among_held, part_held_before, held_stays, new_held, held_after_cut, course_content}

-- ---- keys

pub key_same : (r s : RecordValue) → same_key r s ≡ true → r.key ≡ s.key
key_same r s e = key_of s.key (pos 0, r) e

pub same_by : (r s x y : RecordValue) → r.key ≡ x.key → s.key ≡ y.key → same_key r s ≡ true → same_key x y ≡ true
same_by r s x y e f same = sym (λ i. equal_keys (e i) (f i)) ∙ same

-- ---- a part

-- a cleaning of a part took a record, and left none of its key up to there
pub record Took (p : CleaningPart) (c : Content) (z one : LogRecord) : Type 0 where
  pub there : record_at c.kept one.0 ≡ Some one.1
  pub gone_now : record_at (clean_part p c).kept one.0 ≡ Some one.1 → ⊥
  pub none_left : (q : ℤ) (s : RecordValue) → record_at (clean_part p c).kept q ≡ Some s → same_key s z.1 ≡ true → q ≤ℤ one.0 → ⊥
  pub same : same_key one.1 z.1 ≡ true
  pub deletion : one.1.value ≡ None
  pub behind : z.0 ≤ℤ one.0
  pub below : one.0 <ℤ p.tomb_before

module _ (p : CleaningPart) (c : Content) (content : IsContent c) (z : LogRecord) where
  -- of the last one of the key
  module _ (one : LogRecord) (there : record_at c.kept one.0 ≡ Some one.1) (own : same_key one.1 z.1 ≡ true) (behind : z.0 ≤ℤ one.0)
      (last : (y : LogRecord) → record_at c.kept y.0 ≡ Some y.1 → same_key y.1 z.1 ≡ true → y.0 ≤ℤ one.0) where
    has : HasRecord c.kept one.0 one.1
    has = held_in c content one.0 one.1 there

    not_later : (y : LogRecord) → record_at c.kept y.0 ≡ Some y.1 → same_key y.1 one.1 ≡ true → one.0 <ℤ y.0 → ⊥
    not_later y e same less =
        let most = last y e (same_by y.1 one.1 y.1 z.1 refl (key_same one.1 z.1 own) same) in
        omega (arith, ints, most, less)

    not_superseded : is_superseded c p.upto one ≡ true → ⊥
    not_superseded sup =
        let any = any_of c content (is_cleanable p.upto) (λ y. int_lt one.0 y.0 && same_key y.1 one.1) sup in
        let passes = any.passes in
        not_later (any.offset, any.value) (held c content any.offset any.value any.has) (grind (arith, passes)) (grind (arith, ints, passes))

    expired : is_removed_in_part p c one ≡ true → is_expired_in_part p c one ≡ true
    expired removed = by (is_superseded c p.upto one) refl
      where
        by : (t : Bool) → is_superseded c p.upto one ≡ t → is_expired_in_part p c one ≡ true
        by true sup = absurd (not_superseded sup)
        by false sup = grind (arith, removed, sup)

    below_bound : is_removed_in_part p c one ≡ true → one.0 <ℤ p.tomb_before
    below_bound removed =
        let is = expired removed in
        let less : int_lt one.0 p.tomb_before ≡ true = grind (arith, is) in
        grind (arith, ints, less)

    none_of_key : is_in_part p has.batch ≡ true → is_removed_in_part p c one ≡ true → IsLastTombstone (is_in_part p) (is_removed_in_part p c) c one.0 one.1
        → (q : ℤ) (s : RecordValue) → record_at (clean_part p c).kept q ≡ Some s → same_key s z.1 ≡ true → q ≤ℤ one.0 → ⊥
    none_of_key reached removed tomb q s e same le = by (int_eq q one.0) refl
      where
        by : (t : Bool) → int_eq q one.0 ≡ t → ⊥
        by true at =
            let offset : q ≡ one.0 = grind (arith, ints, at) in
            gone (is_in_part p) (is_removed_in_part p c) c content one.0 one.1 has reached removed s (ap (record_at (clean_part p c).kept) (sym offset) ∙ e)
        by false at = older (held_in c content q s (part_held_before c content p q s e))
          where
            older : HasRecord c.kept q s → ⊥
            older old =
                let both = tomb.older q s old (grind (arith, ints, at, le)) (same_by s z.1 s one.1 refl (sym (key_same one.1 z.1 own)) same) in
                gone (is_in_part p) (is_removed_in_part p c) c content q s old both.0 both.1 s e

    taken : is_in_part p has.batch ≡ true → is_removed_in_part p c one ≡ true → IsSuperseded c one.0 one.1 ⊎ IsLastTombstone (is_in_part p) (is_removed_in_part p c) c one.0 one.1 → Took p c z one
    taken reached removed (inl sup) = absurd (not_later sup.by sup.held sup.same sup.later)
    taken reached removed (inr tomb) = record {
      there = there;
      gone_now = λ e. gone (is_in_part p) (is_removed_in_part p c) c content one.0 one.1 has reached removed one.1 e;
      none_left = none_of_key reached removed tomb;
      same = own;
      deletion = tomb.deletion;
      behind = behind;
      below = below_bound removed;
    }

    last_left : HasItOrLater (clean_part p c) z ⊎ Took p c z one
    last_left = by (is_in_part p has.batch) (is_removed_in_part p c one) refl refl
      where
        it : record_at (clean_part p c).kept one.0 ≡ Some one.1 → HasItOrLater (clean_part p c) z
        it e = (one, e, own, behind)

        by : (a b : Bool) → is_in_part p has.batch ≡ a → is_removed_in_part p c one ≡ b → HasItOrLater (clean_part p c) z ⊎ Took p c z one
        by false b reached removed = inl (it (still_held (is_in_part p) (is_removed_in_part p c) c content one.0 one.1 has.batch.head (still_unreached (is_in_part p) (is_removed_in_part p c) c content one.0 one.1 has reached)))
        by true false reached removed = inl (it (still_held (is_in_part p) (is_removed_in_part p c) c content one.0 one.1 has.batch.head (still_in (is_in_part p) (is_removed_in_part p c) c content one.0 one.1 has removed)))
        by true true reached removed = inr (taken reached removed (part_safe p c content one.0 one.1 has reached removed))

  pub part_leaves : HasItOrLater c z → HasItOrLater (clean_part p c) z ⊎ ((one : LogRecord) × Took p c z one)
  part_leaves it = by (last_of z.1.key (log_records c.kept) it.0 it.2)
    where
      there : (one : LogRecord) → (one ≡ it.0) ⊎ IsAmong one (log_records c.kept) → record_at c.kept one.0 ≡ Some one.1
      there one (inl is) = subst (λ (x : LogRecord). record_at c.kept x.0 ≡ Some x.1) (sym is) it.1
      there one (inr i) = (among_held c.start c.kept one content.disjoint content.keepable i).0

      pack : (one : LogRecord) → HasItOrLater (clean_part p c) z ⊎ Took p c z one → HasItOrLater (clean_part p c) z ⊎ ((x : LogRecord) × Took p c z x)
      pack one (inl left) = inl left
      pack one (inr took) = inr (one, took)

      by : (one : LogRecord) × IsLastOf z.1.key (log_records c.kept) it.0 one → HasItOrLater (clean_part p c) z ⊎ ((x : LogRecord) × Took p c z x)
      by found =
          let later : it.0.0 ≤ℤ found.0.0 = found.1.behind in
          let behind : z.0 ≤ℤ it.0.0 = it.3 in
          pack found.0 (last_left found.0 (there found.0 found.1.among) found.1.own (omega (arith, ints, later, behind))
          (λ y e same. found.1.last y (found-among offset_in_log y.0 (log_records c.kept) y (look_up_of_record y.0 c.kept y.1 e)) same))

-- ---- a course

abbrev pub IsCleaning : Step → CleaningPart → Type 0
IsCleaning a p = ((t : ℕ) × (a ≡ Clean t p)) ⊎ ((t : ℕ) × (a ≡ ForeignClean t p))

pub record WasTaken (c : Content) (steps : List Step) (z : LogRecord) : Type 0 where
  pub since : List Step
  pub before : List Step
  pub step : Step
  pub part : CleaningPart
  pub one : LogRecord
  pub are : steps ≡ since ++ step ∷ before
  pub of : IsCleaning step part
  pub took : Took part (content_after c before) z one

abbrev pub Stands : Content → List Step → LogRecord → Type 0
Stands c steps z = (z.0 <ℤ (content_after c steps).start) ⊎ (HasItOrLater (content_after c steps) z ⊎ WasTaken c steps z)

taken_later : (c : Content) (before : List Step) (a : Step) (z : LogRecord) → WasTaken c before z → WasTaken c (a ∷ before) z
taken_later c before a z is = record { since = a ∷ is.since; before = is.before; step = is.step; part = is.part; one = is.one; are = ap (λ (l : List Step). a ∷ l) is.are; of = is.of; took = is.took }

-- behind a step, from what stood before it
module _ (keep : ℕ) (c : Content) (before : List Step) (content : IsContent (content_after c before)) (z : LogRecord) where
  by_batch : (t : ℕ) (b : BatchValue) → MayFollow keep c before (Produce t b) → Stands c before z → Stands c (Produce t b ∷ before) z
  by_batch t b may (inl low) = let same = ap (λ (x : Content). x.start) (add_is (content_after c before) b content may.0 may.1) in inl (subst (λ (s : ℤ). z.0 <ℤ s) (sym same) low)
  by_batch t b may (inr (inl it)) = inr (inl (it.0, held_stays (content_after c before) b content may.0 may.1 it.0.0 it.0.1 it.1, it.2, it.3))
  by_batch t b may (inr (inr taken)) = inr (inr (taken_later c before (Produce t b) z taken))

  by_part : (a : Step) (p : CleaningPart) → IsCleaning a p → content_after c (a ∷ before) ≡ clean_part p (content_after c before) → Stands c before z → Stands c (a ∷ before) z
  by_part a p of is (inl low) = inl (subst (λ (x : Content). z.0 <ℤ x.start) (sym is) low)
  by_part a p of is (inr (inr taken)) = inr (inr (taken_later c before a z taken))
  by_part a p of is (inr (inl it)) = inr (by (part_leaves p (content_after c before) content z it))
    where
      by : HasItOrLater (clean_part p (content_after c before)) z ⊎ ((one : LogRecord) × Took p (content_after c before) z one) → HasItOrLater (content_after c (a ∷ before)) z ⊎ WasTaken c (a ∷ before) z
      by (inl left) = inl (subst (λ (x : Content). HasItOrLater x z) (sym is) left)
      by (inr took) = inr (record { since = []; before = before; step = a; part = p; one = took.0; are = refl; of = of; took = took.1 })

  by_trim : (t : ℕ) (s : ℤ) → MayFollow keep c before (Trim t s) → Stands c before z → Stands c (Trim t s ∷ before) z
  by_trim t s may (inl low) = let later = may.0 in inl (omega (arith, ints, low, later))
  by_trim t s may (inr (inr taken)) = inr (inr (taken_later c before (Trim t s) z taken))
  by_trim t s may (inr (inl it)) = by_lt_z it.0.0 s
      (λ less. let behind = it.3 in inl (omega (arith, ints, less, behind)))
      (λ le. inr (inl (it.0, held_after_cut (content_after c before) s content may.0 may.1 it.0.0 it.0.1 it.1 le, it.2, it.3)))

z_refl : (a : ℤ) → a ≤ℤ a
z_refl a = omega (arith, ints)

pub stands : (keep : ℕ) (c : Content) (steps : List Step) (z : LogRecord) → IsCourse keep c steps → same_key z.1 z.1 ≡ true → IsAmong z (log_records (batches_ever c steps)) → Stands c steps z
stands keep c [] z course own i = inr (inl (z, (among_held c.start c.kept z course.disjoint course.keepable i).0, own, z_refl z.0))
stands keep c (Produce t b ∷ before) z course own i = by (either_batches z (batches_ever c before) (b ∷ []) i) (stands keep c before z course.2 own)
  where
    content : IsContent (content_after c before)
    content = course_content keep c before course.2

    by : IsAmong z (log_records (batches_ever c before)) ⊎ IsAmong z (log_records (b ∷ [])) → (IsAmong z (log_records (batches_ever c before)) → Stands c before z) → Stands c (Produce t b ∷ before) z
    by (inl j) old = by_batch keep c before content z t b course.0 (old j)
    by (inr j) old = inr (inl (z, new_held (content_after c before) b content course.0.0 course.0.1 z j, own, z_refl z.0))
stands keep c (Clean t p ∷ before) z course own i = by_part keep c before (course_content keep c before course.2) z (Clean t p) p (inl (t, refl)) refl (stands keep c before z course.2 own i)
stands keep c (ForeignClean t p ∷ before) z course own i = by_part keep c before (course_content keep c before course.2) z (ForeignClean t p) p (inr (t, refl)) refl (stands keep c before z course.2 own i)
stands keep c (Fetch t x ∷ before) z course own i = by (stands keep c before z course.2 own i)
  where
    by : Stands c before z → Stands c (Fetch t x ∷ before) z
    by (inl low) = inl low
    by (inr (inl it)) = inr (inl it)
    by (inr (inr taken)) = inr (inr (taken_later c before (Fetch t x) z taken))
stands keep c (Trim t s ∷ before) z course own i = by_trim keep c before (course_content keep c before course.2) z t s course.0 (stands keep c before z course.2 own i)
