-- Ranges judged where they stand, one after the other.
use Rattle.std.proofs.Common.{◌≡◌, ℕ, zero, suc, ◌+◌, ◌≤◌, ◌<◌, ℤ, pos, ◌+ℤ◌, Bool, ◌&&◌, ◌⊎◌, inl, inr, List, [], ◌∷◌, ◌++◌, length, get_or, take, drop, refl, sym, ap, subst, ◌∙◌, add-one, arith}
use Rattle.std.specs.Prelude.{◌≤ℤ◌, ◌<ℤ◌, int_lt, int_le, ◌↔◌}
use Rattle.std.proofs.lemmas.Int.{ints}
use Rattle.std.proofs.lemmas.List.{length-map, drop_all, take_more, map-append, take-append-drop}
use Rattle.cover_ranges.specs.declared.TheConstants.{OFFSETS_END}
use Rattle.cover_ranges.specs.Runs.{Runs, IsRun, IsCanonical, with_range}
use Rattle.cover_ranges.proofs.RunsFrom.{RunsFrom, canonical_from}
use Rattle.copy_images.specs.Refusals.{IsCoverFrom}
use Rattle.copy_images.specs.Judging.{range_at, ranges_of, ending_from, first_holds}
use Rattle.copy_images.proofs.Contents.{cover_from, from_cover}

abbrev pub Parts : Type 0
Parts = List (List ℕ)

next : (parts : Parts) (i : ℕ) (range : ℤ × ℤ) → i < length parts → range ≡ range_at (get_or parts i []) → drop i (ranges_of parts) ≡ range ∷ drop (suc i) (ranges_of parts)
next [] i range lt is = absurd (omega arith)
next (part ∷ parts) zero range lt is = ap (λ (x : ℤ × ℤ). x ∷ ranges_of parts) (sym is)
next (part ∷ parts) (suc i) range lt is = next parts i range (omega arith) is

-- the range that the part at an index says, and those after it
pub next_range : (parts : Parts) (i : ℕ) (range : ℤ × ℤ) → i < length parts → range ≡ range_at (get_or parts i []) → drop i (ranges_of parts) ≡ range ∷ drop (i + 1) (ranges_of parts)
next_range parts i range lt is = rw add-one (next parts i range lt is)

pub none_left : (parts : Parts) (i : ℕ) → length parts ≤ i → drop i (ranges_of parts) ≡ []
none_left [] i le = drop_all i [] (omega arith)
none_left (part ∷ parts) zero le = absurd (omega arith)
none_left (part ∷ parts) (suc i) le = none_left parts i (omega arith)

-- ---- whether they are maximal runs

-- the ranges so far pass, where those from the index on may begin at `least`
abbrev pub Passes : ℤ → Parts → ℕ → ℤ → Type 0
Passes start parts i least = RunsFrom start (ranges_of parts) ↔ RunsFrom least (drop i (ranges_of parts))

pub one_passes : (start : ℤ) (parts : Parts) (i : ℕ) (least : ℤ) (range : ℤ × ℤ) → i < length parts → range ≡ range_at (get_or parts i []) → least ≤ℤ range.0 → range.0 ≤ℤ range.1 → range.1 <ℤ OFFSETS_END
    → Passes start parts i least → Passes start parts (i + 1) (range.1 +ℤ pos 2)
one_passes start parts i least range lt is p q r so_far =
    let next = next_range parts i range lt is in
    let at : RunsFrom start (ranges_of parts) → RunsFrom least (range ∷ drop (i + 1) (ranges_of parts)) = λ h. subst (RunsFrom least) next (so_far.0 h) in
    (λ h. (at h).3, λ h. so_far.1 (subst (RunsFrom least) (sym next) (p, q, r, h)))

pub one_fails : (start : ℤ) (parts : Parts) (i : ℕ) (least : ℤ) (range : ℤ × ℤ) → i < length parts → range ≡ range_at (get_or parts i []) → (range.0 <ℤ least) ⊎ ((range.1 <ℤ range.0) ⊎ (OFFSETS_END ≤ℤ range.1))
    → Passes start parts i least → IsCoverFrom start (ranges_of parts) → ⊥
one_fails start parts i least range lt is fault so_far cover =
    let at : RunsFrom least (range ∷ drop (i + 1) (ranges_of parts)) = subst (RunsFrom least) (next_range parts i range lt is) (so_far.0 (from_cover start (ranges_of parts) cover)) in
    let a : least ≤ℤ range.0 = at.0 in
    let b : range.0 ≤ℤ range.1 = at.1 in
    let c : range.1 <ℤ OFFSETS_END = at.2 in
    by fault a b c
  where
    by : (range.0 <ℤ least) ⊎ ((range.1 <ℤ range.0) ⊎ (OFFSETS_END ≤ℤ range.1)) → least ≤ℤ range.0 → range.0 ≤ℤ range.1 → range.1 <ℤ OFFSETS_END → ⊥
    by (inl x) a b c = omega (arith, ints)
    by (inr (inl x)) a b c = omega (arith, ints)
    by (inr (inr x)) a b c = omega (arith, ints)

pub all_pass : (start : ℤ) (parts : Parts) (i : ℕ) (least : ℤ) → pos 0 ≤ℤ start → length parts ≤ i → Passes start parts i least → IsCoverFrom start (ranges_of parts)
all_pass start parts i least z le so_far =
    cover_from start (ranges_of parts) z (so_far.1 (subst (RunsFrom least) (sym (none_left parts i le)) tt))

-- ---- those that end at an offset or later

pub passed_over : (parts : Parts) (i : ℕ) (offset : ℤ) (range : ℤ × ℤ) → i < length parts → range ≡ range_at (get_or parts i []) → range.1 <ℤ offset
    → ending_from offset (drop i (ranges_of parts)) ≡ ending_from offset (drop (i + 1) (ranges_of parts))
unfolding ending_from
passed_over parts i offset range lt is less =
    ap (ending_from offset) (next_range parts i range lt is) ∙ by (int_lt range.1 offset) refl
  where
    by : (b : Bool) → int_lt range.1 offset ≡ b → ending_from offset (range ∷ drop (i + 1) (ranges_of parts)) ≡ ending_from offset (drop (i + 1) (ranges_of parts))
    by b e = grind (arith, ints)

pub stopped_at : (parts : Parts) (i : ℕ) (offset : ℤ) (range : ℤ × ℤ) → i < length parts → range ≡ range_at (get_or parts i []) → offset ≤ℤ range.1
    → ending_from offset (drop i (ranges_of parts)) ≡ drop i (ranges_of parts)
unfolding ending_from
stopped_at parts i offset range lt is le =
    let next = next_range parts i range lt is in
    ap (ending_from offset) next ∙ here ∙ sym next
  where
    here : ending_from offset (range ∷ drop (i + 1) (ranges_of parts)) ≡ range ∷ drop (i + 1) (ranges_of parts)
    here = grind (arith, ints)

pub ending_none : (parts : Parts) (i : ℕ) (offset : ℤ) → length parts ≤ i → ending_from offset (drop i (ranges_of parts)) ≡ []
unfolding ending_from
ending_none parts i offset le = ap (ending_from offset) (none_left parts i le)

pub ranges-drop : (parts : Parts) (i : ℕ) → ranges_of (drop i parts) ≡ drop i (ranges_of parts)
ranges-drop parts zero = refl
ranges-drop [] (suc i) = refl
ranges-drop (part ∷ parts) (suc i) = ranges-drop parts i

-- ---- the first of them

pub held_by_first : (parts : Parts) (first last : ℤ) (range : ℤ × ℤ) → 0 < length parts → range ≡ range_at (get_or parts 0 []) → first_holds first last (ranges_of parts) ≡ (int_le range.0 first && int_le last range.1)
unfolding first_holds
held_by_first [] first last range lt is = absurd (omega arith)
held_by_first (part ∷ parts) first last range lt is = ap (λ (x : ℤ × ℤ). int_le x.0 first && int_le last x.1) (sym is)

-- ---- a set built of them

runs_front : (low : ℤ) (xs ys : Runs) → RunsFrom low (xs ++ ys) → RunsFrom low xs
runs_front low [] ys h = tt
runs_front low (x ∷ xs) ys h = (h.0, h.1, h.2, runs_front (x.1 +ℤ pos 2) xs ys h.3)

starts_above : (low : ℤ) (x : ℤ × ℤ) (xs : Runs) (last : ℤ × ℤ) → RunsFrom low (x ∷ (xs ++ last ∷ [])) → (x.1 +ℤ pos 1) <ℤ last.0
starts_above low x [] last h = let a : (x.1 +ℤ pos 2) ≤ℤ last.0 = h.3.0 in omega (arith, ints)
starts_above low x (y ∷ ys) last h =
    let a : (x.1 +ℤ pos 2) ≤ℤ y.0 = h.3.0 in
    let b : y.0 ≤ℤ y.1 = h.3.1 in
    let c : (y.1 +ℤ pos 1) <ℤ last.0 = starts_above (x.1 +ℤ pos 2) y ys last h.3 in
    omega (arith, ints)

-- a range above all others comes last
added_last : (low : ℤ) (xs : Runs) (last : ℤ × ℤ) → RunsFrom low (xs ++ last ∷ []) → with_range last.0 last.1 xs ≡ xs ++ last ∷ []
unfolding with_range
added_last low [] last h = refl
added_last low (x ∷ xs) last h =
    let apart : (x.1 +ℤ pos 1) <ℤ last.0 = starts_above low x xs last h in
    let others : with_range last.0 last.1 xs ≡ xs ++ last ∷ [] = added_last (x.1 +ℤ pos 2) xs last h.3 in
    grind (arith, ints)

taken : (parts : Parts) (i : ℕ) (range : ℤ × ℤ) → i < length parts → range ≡ range_at (get_or parts i []) → ranges_of (take (i + 1) parts) ≡ ranges_of (take i parts) ++ range ∷ []
taken parts i range lt is =
    ap ranges_of (take_more parts i [] lt) ∙ map-append range_at (take i parts) (get_or parts i [] ∷ []) ∙ ap (λ (x : ℤ × ℤ). ranges_of (take i parts) ++ x ∷ []) (sym is)

whole : (parts : Parts) (i : ℕ) → ranges_of parts ≡ ranges_of (take i parts) ++ ranges_of (drop i parts)
whole parts i = ap ranges_of (sym (take-append-drop i parts)) ∙ map-append range_at (take i parts) (drop i parts)

pub one_added : (parts : Parts) (i : ℕ) (range : ℤ × ℤ) (old new : Runs) → i < length parts → range ≡ range_at (get_or parts i []) → IsCanonical (ranges_of parts) → old ≡ ranges_of (take i parts)
    → new ≡ with_range range.0 range.1 old → new ≡ ranges_of (take (i + 1) parts)
one_added parts i range old new lt is canonical so_far e =
    let front : RunsFrom (pos 0) (ranges_of (take (i + 1) parts)) = runs_front (pos 0) (ranges_of (take (i + 1) parts)) (ranges_of (drop (i + 1) parts)) (subst (RunsFrom (pos 0)) (whole parts (i + 1)) (canonical_from (ranges_of parts) canonical)) in
    let here = taken parts i range lt is in
    e ∙ ap (with_range range.0 range.1) so_far ∙ added_last (pos 0) (ranges_of (take i parts)) range (subst (RunsFrom (pos 0)) here front) ∙ sym here

pub is_run : (parts : Parts) (i : ℕ) (range : ℤ × ℤ) → i < length parts → range ≡ range_at (get_or parts i []) → IsCanonical (ranges_of parts) → IsRun range
is_run parts i range lt is canonical =
    let low : i < length (ranges_of parts) = omega (arith, length-map parts range_at, lt) in
    subst IsRun (read parts i lt ∙ sym is) (canonical.are_runs i range low)
  where
    read : (parts : Parts) (i : ℕ) → i < length parts → get_or (ranges_of parts) i range ≡ range_at (get_or parts i [])
    read [] i lt = absurd (omega arith)
    read (part ∷ parts) zero lt = refl
    read (part ∷ parts) (suc i) lt = read parts i (omega arith)
