-- A whole cleaning is a part from the start on up to its bound, and a pass.
use Rattle.std.proofs.Common.{◌≡◌, ℕ, ℤ, Bool, true, false, cond, List, [], ◌∷◌, refl, sym, ap, subst, ◌⊎◌, inl, inr, arith}
use Rattle.std.specs.Prelude.{◌≤ℤ◌, ◌<ℤ◌}
use Rattle.std.specs.List.{filter, AllByRecursion}
use Rattle.std.proofs.lemmas.Int.{ints}
use Rattle.batch_codec.specs.Values.{BatchValue}
use Rattle.batch_codec.specs.Offsets.{first_offset, last_offset}
use Rattle.content.specs.Content.{Content, IsContent}
use Rattle.content.specs.Cleaning.{is_cleanable, clean}
use Rattle.content.specs.Parts.{clean_part, part_of, NoneIsAcross}
use Rattle.content_laws.proofs.BatchParts.{all-filter}
use Rattle.content_laws.proofs.CleaningParts.{whole_content}
use Rattle.cleaning_courses.specs.Steps.{Step, content_after, HasComeTo, HasWholeEnds, IsCourse}
use Rattle.cleaning_courses.specs.Steps.Step.{Produce, Clean, ForeignClean, Fetch, Trim}
use Rattle.cleaning_courses.proofs.Keyed.{Batches}
use Rattle.cleaning_courses.proofs.Cleaned.{kept_from_start}
use Rattle.cleaning_courses.proofs.Appended.{add_is}
use Rattle.cleaning_courses.proofs.Contents.{course_content}

z_refl : (a : ℤ) → a ≤ℤ a
z_refl a = omega (arith, ints)

pub whole_cleans : (u d : ℤ) (c : Content) → IsContent c → clean_part (part_of u d c.start u) c ≡ clean u d c
whole_cleans u d c content = whole_content (part_of u d c.start u) c content (z_refl c.start) (z_refl u)

-- ---- its ends

from_on : (o : ℤ) (bs : Batches) → AllByRecursion (λ b. o ≤ℤ first_offset b) bs → NoneIsAcross o bs
from_on o [] all = tt
from_on o (b ∷ bs) all = (inr all.0, from_on o bs all.1)

-- batches below the bound lie across no bound
below_bound : (u : ℤ) (bs : Batches) → NoneIsAcross u (filter (is_cleanable u) bs)
below_bound u [] = tt
below_bound u (b ∷ bs) = by (is_cleanable u b) refl (below_bound u bs)
  where
    by : (t : Bool) → is_cleanable u b ≡ t → NoneIsAcross u (filter (is_cleanable u) bs) → NoneIsAcross u (cond t (b ∷ filter (is_cleanable u) bs) (filter (is_cleanable u) bs))
    by true is rest = (inl (grind (arith, ints, is)), rest)
    by false is rest = rest

pub ends_of_whole : (u d : ℤ) (c : Content) → IsContent c → HasWholeEnds c (part_of u d c.start u)
ends_of_whole u d c content = (
  all-filter (λ (b : BatchValue). (last_offset b <ℤ c.start) ⊎ (c.start ≤ℤ first_offset b)) (is_cleanable u) c.kept (from_on c.start c.kept (kept_from_start c content)),
  below_bound u c.kept,
)

-- ---- a pass

-- every pass has come to the start
come_to_start : (keep : ℕ) (u : ℤ) (c : Content) (steps : List Step) → IsCourse keep c steps → HasComeTo u c steps (content_after c steps).start
come_to_start keep u c [] course = z_refl c.start
come_to_start keep u c (Produce t b ∷ before) course =
    let same = ap (λ (x : Content). x.start) (add_is (content_after c before) b (course_content keep c before course.2) course.0.0 course.0.1) in
    subst (HasComeTo u c before) (sym same) (come_to_start keep u c before course.2)
come_to_start keep u c (Clean t p ∷ before) course = inl (come_to_start keep u c before course.2)
come_to_start keep u c (ForeignClean t p ∷ before) course = come_to_start keep u c before course.2
come_to_start keep u c (Fetch t x ∷ before) course = come_to_start keep u c before course.2
come_to_start keep u c (Trim t s ∷ before) course = inr (z_refl s)

pub whole_comes : (keep t : ℕ) (u d : ℤ) (c : Content) (before : List Step) → IsCourse keep c before → HasComeTo u c (Clean t (part_of u d (content_after c before).start u) ∷ before) u
whole_comes keep t u d c before course = inr (refl, z_refl u, come_to_start keep u c before course)
