-- Whether a copy knows what was asked, range by range where they stand in bytes.
use Rattle.std.proofs.Common.{◌≡◌, ℕ, ◌+◌, ◌≤◌, ◌<◌, ℤ, Bool, true, false, ◌&&◌, length, get_or, drop, [], refl, sym, ap, subst, ◌∙◌, IsTrue}
use Rattle.std.specs.Prelude.{◌↔◌}
use Rattle.std.specs.Int.{int_max}
use Rattle.cover_ranges.specs.Runs.{Runs, CoversAll}
use Rattle.cover_ranges.proofs.RunEnds.{has_all_covers, covers_has_all}
use Rattle.content.specs.Content.{Content, IsContent}
use Rattle.copy_images.specs.Judging.{range_at, ranges_of}
use Rattle.copy_images.proofs.Runs.{Parts, next_range, none_left}
use Rattle.deltas.specs.Accepting.{IsFor, HasUnknown, has_seen_range, is_for}
use Rattle.deltas.proofs.AskedRuns.{for_by_runs, unknown_found}

both_ways : (s t : Bool) → (s ≡ true → t ≡ true) → (t ≡ true → s ≡ true) → s ≡ t
both_ways true t f g = sym (f refl)
both_ways false true f g = g refl
both_ways false false f g = refl

-- what the set says of a range
range_says : (c : Content) (range : ℤ × ℤ) (first last : ℤ) (seen : Runs) (says : Bool) → IsContent c → first ≡ int_max c.start range.0 → last ≡ range.1 → seen ≡ c.cover
    → (IsTrue says ↔ CoversAll seen first last) → has_seen_range c range ≡ says
range_says c range first last seen says is first_is last_is seen_is all = both_ways (has_seen_range c range) says
    (λ has. all.1 (subst (λ (P : Type 0). P) (sym same) (has_all_covers c.cover (int_max c.start range.0) range.1 has)))
    (λ granted. covers_has_all c.cover (int_max c.start range.0) range.1 is.canonical (subst (λ (P : Type 0). P) same (all.0 granted)))
  where
    same : CoversAll seen first last ≡ CoversAll c.cover (int_max c.start range.0) range.1
    same = λ i. CoversAll (seen_is i) (first_is i) (last_is i)

-- the ranges from an index on are known exactly where all are
abbrev pub AreKnownFrom : Content → Parts → ℕ → Type 0
AreKnownFrom c parts i = is_for c (ranges_of parts) ≡ is_for c (drop i (ranges_of parts))

one_more : (c : Content) (parts : Parts) (i : ℕ) (range : ℤ × ℤ) → i < length parts → range ≡ range_at (get_or parts i []) → is_for c (drop i (ranges_of parts)) ≡ (has_seen_range c range && is_for c (drop (i + 1) (ranges_of parts)))
one_more c parts i range less is = ap (is_for c) (next_range parts i range less is)

module _ (c : Content) (parts : Parts) (i : ℕ) (range : ℤ × ℤ) (first last : ℤ) (seen : Runs) (says : Bool) (is : IsContent c) (less : i < length parts) (range_is : range ≡ range_at (get_or parts i []))
    (first_is : first ≡ int_max c.start range.0) (last_is : last ≡ range.1) (seen_is : seen ≡ c.cover) (all : IsTrue says ↔ CoversAll seen first last) (so_far : AreKnownFrom c parts i) where
  here : is_for c (ranges_of parts) ≡ (says && is_for c (drop (i + 1) (ranges_of parts)))
  here = so_far ∙ one_more c parts i range less range_is ∙ ap (λ (t : Bool). t && is_for c (drop (i + 1) (ranges_of parts))) (range_says c range first last seen says is first_is last_is seen_is all)

  pub one_known : says ≡ true → AreKnownFrom c parts (i + 1)
  one_known granted = here ∙ ap (λ (t : Bool). t && is_for c (drop (i + 1) (ranges_of parts))) granted

  pub one_unknown : says ≡ false → HasUnknown c (ranges_of parts)
  one_unknown denied = unknown_found c (ranges_of parts) is (here ∙ ap (λ (t : Bool). t && is_for c (drop (i + 1) (ranges_of parts))) denied)

pub all_known : (c : Content) (parts : Parts) (i : ℕ) → IsContent c → length parts ≤ i → AreKnownFrom c parts i → IsFor c (ranges_of parts)
all_known c parts i is le so_far = (for_by_runs c (ranges_of parts) is).0 (so_far ∙ ap (is_for c) (none_left parts i le))

-- the later of two starts, each as it is passed on
pub later_said : (own first a b later : ℤ) → a ≡ own → b ≡ first → later ≡ int_max a b → later ≡ int_max own first
later_said own first a b later own_is first_is is = is ∙ (λ i. int_max (own_is i) (first_is i))
