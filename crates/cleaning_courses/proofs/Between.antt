-- Offsets between batches: an end stays one, and an accepted start is one.
use Rattle.std.proofs.Common.{◌≡◌, ℕ, ℤ, pos, ◌+ℤ◌, ◌-ℤ◌, List, [], ◌∷◌, ◌++◌, Option, Some, None, refl, sym, subst, true≢false, ◌⊎◌, inl, inr, arith}
use Rattle.std.specs.Prelude.{◌≤ℤ◌, ◌<ℤ◌, int_le, IsSome}
use Rattle.std.specs.List.{filter_map, cons_option, AllByRecursion}
use Rattle.std.proofs.lemmas.Int.{ints, by_lt_z}
use Rattle.batch_codec.specs.declared.head.BatchHead.{BatchHead}
use Rattle.batch_codec.specs.Values.{BatchValue}
use Rattle.batch_codec.specs.Offsets.{first_offset, last_offset}
use Rattle.cover_ranges.specs.Runs.{covers}
use Rattle.cover_ranges.proofs.RunsFrom.{canonical_from}
use Rattle.content.specs.ByOffset.{look_up}
use Rattle.content.specs.Content.{Content, IsContent, IsLogBatch, IsAcceptedStart, add, cut, end}
use Rattle.content.specs.declared.part.CleaningPart.{CleaningPart}
use Rattle.content.specs.Parts.{clean_batch_by_part, clean_part, NoneIsAcross}
use Rattle.content_laws.proofs.ByOffset.{all_from_at}
use Rattle.content_laws.proofs.Batches.{spans_apart}
use Rattle.content_laws.proofs.BatchParts.{all-filter, part_head}
use Rattle.content_laws.proofs.Slots.{bases_rise}
use Rattle.content_laws.proofs.ContentSteps.{both_bools, part_batch_thins}
use Rattle.content_laws.proofs.CopyStarts.{begins_run}
use Rattle.cleaning_courses.specs.Places.{IsBetweenBatches}
use Rattle.cleaning_courses.specs.Steps.{Step, content_after, MayFollow, IsCourse}
use Rattle.cleaning_courses.specs.Steps.Step.{Produce, Clean, ForeignClean, Fetch, Trim}
use Rattle.cleaning_courses.proofs.Lists.{all-append}
use Rattle.cleaning_courses.proofs.Ends.{end_of_cut}
use Rattle.cleaning_courses.proofs.Keyed.{Batches}
use Rattle.cleaning_courses.proofs.Cleaned.{kept_from_start}
use Rattle.cleaning_courses.proofs.Appended.{kept_below_end, ends_behind, last_below_end, kept_appended}
use Rattle.cleaning_courses.proofs.Contents.{course_content}

-- a batch lies below an offset, or from it on
abbrev pub IsBeside : ℤ → BatchValue → Type 0
IsBeside o b = (last_offset b <ℤ o) ⊎ (o ≤ℤ first_offset b)

-- ---- the end

all_below : (o : ℤ) (bs : Batches) → AllByRecursion (λ b. last_offset b <ℤ o) bs → NoneIsAcross o bs
all_below o [] all = tt
all_below o (b ∷ bs) all = (inl all.0, all_below o bs all.1)

pub end_between : (c : Content) → IsContent c → IsBetweenBatches c (end c)
end_between c content = record { to_end = omega (arith, ints); none_across = all_below (end c) c.kept (kept_below_end c content) }

-- ---- what stays so

pub between_appended : (c : Content) (b : BatchValue) (o : ℤ) → IsContent c → IsLogBatch b → first_offset b ≡ end c → IsBetweenBatches c o → IsBetweenBatches (add c b) o
between_appended c b o content log at_end is = record {
  to_end = omega (arith, ints, to, at_end, ends, last);
  none_across = subst (NoneIsAcross o) (sym (kept_appended c b content log at_end)) (all-append (IsBeside o) c.kept (b ∷ []) is.none_across (inr (omega (arith, ints, to, at_end)), tt));
}
  where
    to : o ≤ℤ end c
    to = is.to_end

    ends : first_offset b ≤ℤ last_offset b
    ends = ends_behind c b content log at_end

    last : last_offset b <ℤ end (add c b)
    last = last_below_end c b content log at_end

module _ (c : Content) (p : CleaningPart) (o : ℤ) where
  beside_cleaned : (b z : BatchValue) → clean_batch_by_part p c b ≡ Some z → IsBeside o b → IsBeside o z
  beside_cleaned b z e is = subst (λ (h : BatchHead). ((h.base +ℤ h.last_delta) <ℤ o) ⊎ (o ≤ℤ h.base)) (sym (part_head z b (part_batch_thins p c b z e))) is

  none_across_cleaned : (bs : Batches) → NoneIsAcross o bs → NoneIsAcross o (filter_map (clean_batch_by_part p c) bs)
  none_across_cleaned [] all = tt
  none_across_cleaned (b ∷ bs) all = by (clean_batch_by_part p c b) refl (none_across_cleaned bs all.1)
    where
      by : (z : Option BatchValue) → clean_batch_by_part p c b ≡ z → NoneIsAcross o (filter_map (clean_batch_by_part p c) bs) → NoneIsAcross o (cons_option z (filter_map (clean_batch_by_part p c) bs))
      by None e rest = rest
      by (Some z) e rest = (beside_cleaned b z e all.0, rest)

pub between_cleaned : (c : Content) (p : CleaningPart) (o : ℤ) → IsBetweenBatches c o → IsBetweenBatches (clean_part p c) o
between_cleaned c p o is = record { to_end = is.to_end; none_across = none_across_cleaned c p o c.kept is.none_across }

pub between_cut : (c : Content) (s o : ℤ) → c.start ≤ℤ s → IsBetweenBatches c o → IsBetweenBatches (cut s c) o
between_cut c s o le is = record {
  to_end = let to : o ≤ℤ end c = is.to_end in let rises : end c ≤ℤ end (cut s c) = end_of_cut c.start s s c.cover le (omega (arith, ints)) in omega (arith, ints, to, rises);
  none_across = all-filter (IsBeside o) (λ b. int_le s (first_offset b)) c.kept is.none_across;
}

-- ---- a course

between_follows : (keep : ℕ) (c : Content) (before : List Step) (a : Step) (o : ℤ) → MayFollow keep c before a → IsContent (content_after c before) → IsBetweenBatches (content_after c before) o → IsBetweenBatches (content_after c (a ∷ before)) o
between_follows keep c before (Produce t b) o may content is = between_appended (content_after c before) b o content may.0 may.1 is
between_follows keep c before (Clean t p) o may content is = between_cleaned (content_after c before) p o is
between_follows keep c before (ForeignClean t p) o may content is = between_cleaned (content_after c before) p o is
between_follows keep c before (Fetch t x) o may content is = is
between_follows keep c before (Trim t s) o may content is = between_cut (content_after c before) s o may.0 is

pub end_stays_between : (keep : ℕ) (c : Content) (since before : List Step) → IsCourse keep c (since ++ before) → IsBetweenBatches (content_after c (since ++ before)) (end (content_after c before))
end_stays_between keep c [] before course = end_between (content_after c before) (course_content keep c before course)
end_stays_between keep c (a ∷ since) before course =
    between_follows keep c (since ++ before) a (end (content_after c before)) course.0 (course_content keep c (since ++ before) course.2) (end_stays_between keep c since before course.2)

-- ---- an accepted start

module _ (c : Content) (content : IsContent c) (o : ℤ) where
  all_beside : ((b : BatchValue) → look_up first_offset (first_offset b) c.kept ≡ Some b → IsBeside o b) → NoneIsAcross o c.kept
  all_beside each = all_from_at first_offset (IsBeside o) c.start c.kept (bases_rise c content) each

  from_on : (bs : Batches) → AllByRecursion (λ b. o ≤ℤ first_offset b) bs → NoneIsAcross o bs
  from_on [] all = tt
  from_on (b ∷ bs) all = (inr all.0, from_on bs all.1)

  beside_base : IsSome (look_up first_offset o c.kept) → (b : BatchValue) → look_up first_offset (first_offset b) c.kept ≡ Some b → IsBeside o b
  beside_base some b here = by (look_up first_offset o c.kept) refl some
    where
      by : (z : Option BatchValue) → look_up first_offset o c.kept ≡ z → IsSome z → IsBeside o b
      by None e n = absurd (true≢false (sym n))
      by (Some z) e n = by_lt_z (first_offset b) o (λ less. inl (spans_apart c.start (first_offset b) o c.kept b z content.disjoint content.keepable here e less)) (λ le. inr le)

  beside_run : IsSome (look_up (λ run. run.0) o c.cover) → (b : BatchValue) → look_up first_offset (first_offset b) c.kept ≡ Some b → IsBeside o b
  beside_run some b here = by_lt_z (first_offset b) o (λ less. by_lt_z (last_offset b) o (λ below. inl below) (λ le. absurd (inside less le))) (λ le. inr le)
    where
      inside : first_offset b <ℤ o → o ≤ℤ last_offset b → ⊥
      inside less le =
          let run = begins_run (pos 0) o c.cover (canonical_from c.cover content.canonical) some in
          both_bools (covers c.cover (o -ℤ pos 1)) (content.inside (first_offset b) (o -ℤ pos 1) b here (omega (arith, ints, less)) (omega (arith, ints, le))) run.before

  at_boundary : (o ≡ c.start) ⊎ ((o ≡ end c) ⊎ (IsSome (look_up first_offset o c.kept) ⊎ IsSome (look_up (λ run. run.0) o c.cover))) → NoneIsAcross o c.kept
  at_boundary (inl start) = from_on c.kept (subst (λ (s : ℤ). AllByRecursion (λ b. s ≤ℤ first_offset b) c.kept) (sym start) (kept_from_start c content))
  at_boundary (inr (inl ended)) = all_below o c.kept (subst (λ (s : ℤ). AllByRecursion (λ b. last_offset b <ℤ s) c.kept) (sym ended) (kept_below_end c content))
  at_boundary (inr (inr (inl base))) = all_beside (beside_base base)
  at_boundary (inr (inr (inr run))) = all_beside (beside_run run)

  pub accepted_between : IsAcceptedStart c o → (c.start ≤ℤ o) × IsBetweenBatches c o
  accepted_between is = (is.from_start, record { to_end = is.to_end; none_across = at_boundary is.at_boundary })
