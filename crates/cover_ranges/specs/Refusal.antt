-- Why a list of ranges is refused.
use Rattle.std.specs.Prelude.{ℕ, ◌<◌, ◌⊎◌, ℤ, pos, ◌+ℤ◌, ◌<ℤ◌, ◌≤ℤ◌, length, take}
use Rattle.std.specs.List.{Any, HoldsAt}
use Rattle.cover_ranges.specs.Runs.{Runs, IsCanonical}
use Rattle.cover_ranges.specs.declared.TheConstants.{OFFSETS_END}
use Rattle.cover_ranges.specs.declared.error.CoverError.{CoverError}
use Rattle.cover_ranges.specs.declared.error.CoverError.TheVariants.{EmptyRange, NotRising, OutOfBounds, OutOfMemory}

-- a range that starts here would start at most one past the end of an earlier one
abbrev pub MeetsOneOf : Runs → ℤ → Type 0
MeetsOneOf earlier start = Any (λ run. start ≤ℤ (run.1 +ℤ pos 1)) earlier

-- what is wrong with a range after the earlier ones: the first fault in the order below
abbrev pub HasFault : CoverError → Runs → ℤ × ℤ → Type 0
HasFault EmptyRange earlier range = range.1 <ℤ range.0
HasFault NotRising earlier range = (range.0 ≤ℤ range.1) × MeetsOneOf earlier range.0
HasFault OutOfBounds earlier range =
    (range.0 ≤ℤ range.1) × (MeetsOneOf earlier range.0 → ⊥)
    × ((range.0 <ℤ pos 0) ⊎ (OFFSETS_END ≤ℤ range.1))
HasFault OutOfMemory earlier range = ⊥

-- the first range that fails, after ranges that are maximal runs, has this fault
abbrev pub IsFirstFault : CoverError → Runs → Type 0
IsFirstFault error ranges =
    (at : ℕ) × (at < length ranges) × IsCanonical (take at ranges)
    × HoldsAt (HasFault error (take at ranges)) ranges at

-- the ranges are refused by their first fault, or for lack of memory where they have none
abbrev pub IsRefusal : Runs → CoverError → Type 0
IsRefusal ranges EmptyRange = IsFirstFault EmptyRange ranges
IsRefusal ranges NotRising = IsFirstFault NotRising ranges
IsRefusal ranges OutOfBounds = IsFirstFault OutOfBounds ranges
IsRefusal ranges OutOfMemory = IsCanonical ranges
