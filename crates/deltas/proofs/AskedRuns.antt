-- Whether a copy knows what was asked, range by range.
use Rattle.std.proofs.Common.{◌≡◌, ◌↔◌, ℕ, zero, suc, ℤ, pos, negsuc, ◌+ℤ◌, Bool, true, false, ◌&&◌, ◌||◌, ◌⊎◌, inl, inr, [], ◌∷◌, refl, subst, arith}
use Rattle.std.specs.Prelude.{◌≤ℤ◌, ◌<ℤ◌, ◌-ℤ◌}
use Rattle.std.specs.Int.{int_max}
use Rattle.std.proofs.lemmas.Int.{ints, clamps, by_lt_z}
use Rattle.cover_ranges.specs.Runs.{Runs, covers, is_within, CoversAll}
use Rattle.cover_ranges.proofs.RunEnds.{has_all_covers, covers_has_all}
use Rattle.content.specs.Content.{Content, IsContent}
use Rattle.deltas.specs.Accepting.{IsKnown, IsFor, HasUnknown, has_seen_range, is_for}

in_range : (o first last : ℤ) → first ≤ℤ o → o ≤ℤ last → is_within o (first, last) ≡ true
in_range o first last from to = grind (arith, ints, from, to)

or_left : (s t : Bool) → s ≡ true → (s || t) ≡ true
or_left s t e = grind arith

or_right : (s t : Bool) → t ≡ true → (s || t) ≡ true
or_right s t e = grind arith

-- a range of which all is known
range_seen : (c : Content) (first last : ℤ) → ((o : ℤ) → first ≤ℤ o → o ≤ℤ last → IsKnown c o) → CoversAll c.cover (int_max c.start first) last
range_seen c first last knows o from to = by (knows o (omega (arith, ints, clamps, from)) to)
  where
    by : IsKnown c o → covers c.cover o ≡ true
    by (inl less) = absurd (omega (arith, ints, clamps, less, from))
    by (inr seen) = seen

range_known : (c : Content) (first last o : ℤ) → has_seen_range c (first, last) ≡ true → is_within o (first, last) ≡ true → IsKnown c o
range_known c first last o seen e =
    let from : first ≤ℤ o = grind (arith, ints, e) in
    let to : o ≤ℤ last = grind (arith, ints, e) in
    by_lt_z o c.start (λ less. inl less) (λ le. inr (has_all_covers c.cover (int_max c.start first) last seen o (omega (arith, ints, clamps, from, le)) to))

both : (s t : Bool) → s ≡ true → t ≡ true → (s && t) ≡ true
both s t e f = grind arith

pub known_by_runs : (c : Content) (asked : Runs) → IsContent c → IsFor c asked → is_for c asked ≡ true
known_by_runs c [] is knows = refl
known_by_runs c (r ∷ rs) is knows = both (has_seen_range c r) (is_for c rs)
    (covers_has_all c.cover (int_max c.start r.0) r.1 is.canonical (range_seen c r.0 r.1 (λ o from to. knows o (or_left (is_within o r) (covers rs o) (in_range o r.0 r.1 from to)))))
    (known_by_runs c rs is (λ o e. knows o (or_right (is_within o r) (covers rs o) e)))

pub runs_known : (c : Content) (asked : Runs) → is_for c asked ≡ true → IsFor c asked
runs_known c [] seen o e = absurd cc
runs_known c (r ∷ rs) seen o e = by (is_within o r) refl e (runs_known c rs (second (has_seen_range c r) (is_for c rs) seen) o)
  where
    first : (s t : Bool) → (s && t) ≡ true → s ≡ true
    first s t f = grind arith

    second : (s t : Bool) → (s && t) ≡ true → t ≡ true
    second s t f = grind arith

    by : (t : Bool) → is_within o r ≡ t → (t || covers rs o) ≡ true → (covers rs o ≡ true → IsKnown c o) → IsKnown c o
    by true t f ih = range_known c r.0 r.1 o (first (has_seen_range c r) (is_for c rs) seen) t
    by false t f ih = ih f

pub for_by_runs : (c : Content) (asked : Runs) → IsContent c → is_for c asked ≡ true ↔ IsFor c asked
for_by_runs c asked is = (runs_known c asked, known_by_runs c asked is)

-- ---- where not all is known, an offset is missing

-- some offset of so many from one on is missing, or all are covered
Missing : Runs → ℕ → ℤ → Type 0
Missing runs n from = (o : ℤ) × (from ≤ℤ o) × (o <ℤ (from +ℤ pos n)) × (covers runs o ≡ false)

look : (runs : Runs) (n : ℕ) (from : ℤ) → ((o : ℤ) → from ≤ℤ o → o <ℤ (from +ℤ pos n) → covers runs o ≡ true) ⊎ Missing runs n from
unfolding Missing
look runs zero from = inl (λ o le less. absurd (omega (arith, ints, le, less)))
look runs (suc n) from = by (covers runs from) refl (look runs n (from +ℤ pos 1))
  where
    first : (o : ℤ) → from ≤ℤ o → covers runs from ≡ true → ((from +ℤ pos 1) ≤ℤ o → covers runs o ≡ true) → covers runs o ≡ true
    first o le here later = by_lt_z from o (λ less. later (omega (arith, ints, less))) (λ ge. subst (λ (k : ℤ). covers runs k ≡ true) (omega (arith, ints, le, ge)) here)

    by : (t : Bool) → covers runs from ≡ t → ((o : ℤ) → (from +ℤ pos 1) ≤ℤ o → o <ℤ ((from +ℤ pos 1) +ℤ pos n) → covers runs o ≡ true) ⊎ Missing runs n (from +ℤ pos 1)
        → ((o : ℤ) → from ≤ℤ o → o <ℤ (from +ℤ pos (suc n)) → covers runs o ≡ true) ⊎ Missing runs (suc n) from
    by false here others = inr (from, omega (arith, ints), omega (arith, ints), here)
    by true here (inl all) = inl (λ o le less. first o le here (λ later. all o later (omega (arith, ints, less))))
    by true here (inr gap) = let a = gap.1 in let b = gap.2 in inr (gap.0, omega (arith, ints, a), omega (arith, ints, b), gap.3)

-- an offset of a range that is not known, from the start on
range_missing : (c : Content) (first last : ℤ) → IsContent c → has_seen_range c (first, last) ≡ false → (o : ℤ) × (first ≤ℤ o) × (o ≤ℤ last) × ¬ IsKnown c o
unfolding Missing
range_missing c first last is unseen = by ((last +ℤ pos 1) -ℤ int_max c.start first) refl
  where
    clash : (t : Bool) → t ≡ true → t ≡ false → ⊥
    clash t e f = cc

    seen : ((o : ℤ) → int_max c.start first ≤ℤ o → o ≤ℤ last → covers c.cover o ≡ true) → ⊥
    seen all = clash (has_seen_range c (first, last)) (covers_has_all c.cover (int_max c.start first) last is.canonical all) unseen

    not_known : (o : ℤ) → int_max c.start first ≤ℤ o → covers c.cover o ≡ false → IsKnown c o → ⊥
    not_known o le gap (inl less) = omega (arith, ints, clamps, le, less)
    not_known o le gap (inr here) = clash (covers c.cover o) here gap

    within : (n : ℕ) → (last +ℤ pos 1) -ℤ int_max c.start first ≡ pos n
        → ((o : ℤ) → int_max c.start first ≤ℤ o → o <ℤ (int_max c.start first +ℤ pos n) → covers c.cover o ≡ true) ⊎ Missing c.cover n (int_max c.start first)
        → (o : ℤ) × (first ≤ℤ o) × (o ≤ℤ last) × ¬ IsKnown c o
    within n size (inl all) = absurd (seen (λ o le to. all o le (omega (arith, ints, size, to))))
    within n size (inr gap) =
        let a = gap.1 in
        let b = gap.2 in
        (gap.0, omega (arith, ints, clamps, a), omega (arith, ints, size, b), not_known gap.0 a gap.3)

    by : (z : ℤ) → (last +ℤ pos 1) -ℤ int_max c.start first ≡ z → (o : ℤ) × (first ≤ℤ o) × (o ≤ℤ last) × ¬ IsKnown c o
    by (pos n) size = within n size (look c.cover n (int_max c.start first))
    by (negsuc n) size = absurd (seen (λ o le to. absurd (omega (arith, ints, size, le, to))))

pub unknown_found : (c : Content) (asked : Runs) → IsContent c → is_for c asked ≡ false → HasUnknown c asked
unknown_found c [] is e = absurd cc
unknown_found c (r ∷ rs) is e = by (has_seen_range c r) refl e (unknown_found c rs is)
  where
    by : (t : Bool) → has_seen_range c r ≡ t → (t && is_for c rs) ≡ false → (is_for c rs ≡ false → HasUnknown c rs) → HasUnknown c (r ∷ rs)
    by false unseen f ih =
        let found = range_missing c r.0 r.1 is unseen in
        (found.0, or_left (is_within found.0 r) (covers rs found.0) (in_range found.0 r.0 r.1 found.1 found.2), found.3)
    by true seen f ih = let found = ih f in (found.0, or_right (is_within found.0 r) (covers rs found.0) found.1, found.2)

pub no_unknown : (c : Content) (asked : Runs) → HasUnknown c asked → IsFor c asked → ⊥
no_unknown c asked unknown knows = unknown.2 (knows unknown.0 unknown.1)
