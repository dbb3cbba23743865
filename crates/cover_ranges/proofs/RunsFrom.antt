-- Maximal runs by recursion on their list, which inductions go along; the same as `IsCanonical`.
use Rattle.std.proofs.Common.{[], ◌∷◌, get_or, arith}
use Rattle.std.specs.Prelude.{ℤ, pos, ◌+ℤ◌, ◌<ℤ◌, ◌≤ℤ◌}
use Rattle.std.specs.List.{All}
use Rattle.std.proofs.lemmas.Int.{ints}
use Rattle.std.proofs.lemmas.List.Elements.{All-cons}
use Rattle.std.proofs.lemmas.List.Kept.{AllPairs-cons}
use Rattle.cover_ranges.specs.declared.TheConstants.{OFFSETS_END}
use Rattle.cover_ranges.specs.Runs.{Runs, IsRun, IsApart, IsCanonical}
use Rattle.cover_ranges.proofs.Law.{Parts, parts_of}

-- maximal runs, the first of which starts at `low` or later
abbrev pub RunsFrom : ℤ → Runs → Type 0
RunsFrom low [] = Unit {0}
RunsFrom low (r ∷ rs) = (low ≤ℤ r.0) × (r.0 ≤ℤ r.1) × (r.1 <ℤ OFFSETS_END) × RunsFrom (r.1 +ℤ pos 2) rs

pub runs_lower : (low high : ℤ) (rs : Runs) → low ≤ℤ high → RunsFrom high rs → RunsFrom low rs
runs_lower low high [] le h = tt
runs_lower low high (r ∷ rs) le h = let h0 : high ≤ℤ r.0 = h.0 in (omega (arith, ints), h.1, h.2, h.3)

-- ---- from the one to the other

starts_by : (low : ℤ) (x : ℤ × ℤ) (xs : Runs) → All (λ r. low ≤ℤ r.0) (x ∷ xs) → low ≤ℤ x.0
starts_by low x xs h = h 0 x (omega arith)

apart_starts : (x : ℤ × ℤ) (xs : Runs) → All (IsApart x) xs → All (λ r. (x.1 +ℤ pos 2) ≤ℤ r.0) xs
apart_starts x xs past k d h = let p : (x.1 +ℤ pos 1) <ℤ (get_or xs k d).0 = past k d h in omega (arith, ints)

pub runs_from : (low : ℤ) (rs : Runs) → IsCanonical rs → All (λ r. low ≤ℤ r.0) rs → RunsFrom low rs
runs_from low [] c h = tt
runs_from low (x ∷ xs) c h =
    let a : Parts x xs = parts_of x xs c in
    (starts_by low x xs h, a.run.1, a.run.2, runs_from (x.1 +ℤ pos 2) xs a.rest (apart_starts x xs a.past))

pub canonical_from : (rs : Runs) → IsCanonical rs → RunsFrom (pos 0) rs
canonical_from rs c = runs_from (pos 0) rs c (λ k d h. (c.are_runs k d h).0)

pub starts_from : (low : ℤ) (rs : Runs) → RunsFrom low rs → All (λ r. low ≤ℤ r.0) rs
starts_from low [] h = λ k d lt. absurd (omega arith)
starts_from low (x ∷ xs) h =
    let rest : RunsFrom (x.1 +ℤ pos 2) xs = h.3 in
    let x0 : low ≤ℤ x.0 = h.0 in
    let x1 : x.0 ≤ℤ x.1 = h.1 in
    All-cons (λ r. low ≤ℤ r.0) x xs h.0 (starts_from low xs (runs_lower low (x.1 +ℤ pos 2) xs (omega (arith, ints)) rest))

starts_apart : (x : ℤ × ℤ) (xs : Runs) → All (λ r. (x.1 +ℤ pos 2) ≤ℤ r.0) xs → All (IsApart x) xs
starts_apart x xs h k d lt = let p : (x.1 +ℤ pos 2) ≤ℤ (get_or xs k d).0 = h k d lt in omega (arith, ints)

cons_canonical : (x : ℤ × ℤ) (xs : Runs) → IsRun x → All (IsApart x) xs → IsCanonical xs → IsCanonical (x ∷ xs)
cons_canonical x xs run past c = record {
  are_runs = All-cons IsRun x xs run c.are_runs;
  apart = AllPairs-cons IsApart x xs past c.apart;
}

nothing_canonical : IsCanonical []
nothing_canonical = record { are_runs = λ k d h. absurd (omega arith); apart = λ i j d lt h. absurd (omega arith) }

pub from_canonical : (low : ℤ) (rs : Runs) → pos 0 ≤ℤ low → RunsFrom low rs → IsCanonical rs
from_canonical low [] z h = nothing_canonical
from_canonical low (x ∷ xs) z h =
    let x0 : low ≤ℤ x.0 = h.0 in
    let x1 : x.0 ≤ℤ x.1 = h.1 in
    let rest : RunsFrom (x.1 +ℤ pos 2) xs = h.3 in
    cons_canonical x xs (omega (arith, ints), h.1, h.2) (starts_apart x xs (starts_from (x.1 +ℤ pos 2) xs rest)) (from_canonical (x.1 +ℤ pos 2) xs (omega (arith, ints)) rest)
