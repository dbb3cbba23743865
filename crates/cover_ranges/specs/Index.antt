-- The index of an offset among runs.
use Rattle.std.specs.Prelude.{ℕ, ◌<◌, ◌≤◌, ℤ, ◌<ℤ◌, ◌≤ℤ◌, length}
use Rattle.std.specs.List.{AllWithin, HoldsAt}
use Rattle.cover_ranges.specs.Runs.{Runs}

-- the index of the first run that ends at the offset or later; the length where there is none
pub record IsIndexOf (offset : ℤ) (runs : Runs) (at : ℕ) : Type 0 where
  pub within : at ≤ length runs
  pub before : AllWithin (λ run. run.1 <ℤ offset) runs 0 at
  pub reached : at < length runs → HoldsAt (λ run. offset ≤ℤ run.1) runs at

-- there is a run at this index, and it starts at the offset or before
abbrev pub StartsBy : ℤ → Runs → ℕ → Type 0
StartsBy offset runs at = (at < length runs) × HoldsAt (λ run. run.0 ≤ℤ offset) runs at

-- a run at this index, if there is one, starts past the offset
abbrev pub StartsPast : ℤ → Runs → ℕ → Type 0
StartsPast offset runs at = at < length runs → HoldsAt (λ run. offset <ℤ run.0) runs at
