-- The run that an insertion puts in place of others.
use Rattle.std.specs.Prelude.{◌≡◌, ℕ, ◌<◌, ◌≤◌, ℤ, pos, ◌+ℤ◌, ◌<ℤ◌, ◌≤ℤ◌, length, slice_index_or, true}
use Rattle.cover_ranges.specs.Runs.{Runs, IsRun, covers}

-- The run comes in place of those from `start` to before `end`. It reaches over these and from
-- `first` to `last`, over nothing else that is not covered, and keeps apart from all others.
pub record Reaches (runs : Runs) (start end : ℕ) (first last : ℤ) (run : ℤ × ℤ) : Type 0 where
  pub ordered : start ≤ end
  pub within : end ≤ length runs
  pub is_run : IsRun run
  pub from_first : run.0 ≤ℤ first
  pub to_last : last ≤ℤ run.1
  pub middle : (k : ℕ) (d : ℤ × ℤ) → start ≤ k → k < end
      → (run.0 ≤ℤ (slice_index_or runs k d).0) × ((slice_index_or runs k d).1 ≤ℤ run.1)
  pub front : (k : ℕ) (d : ℤ × ℤ) → k < start → ((slice_index_or runs k d).1 +ℤ pos 1) <ℤ run.0
  pub back : (k : ℕ) (d : ℤ × ℤ) → end ≤ k → k < length runs
      → (run.1 +ℤ pos 1) <ℤ (slice_index_or runs k d).0
  pub left : (o : ℤ) → run.0 ≤ℤ o → o <ℤ first → covers runs o ≡ true
  pub right : (o : ℤ) → last <ℤ o → o ≤ℤ run.1 → covers runs o ≡ true
