-- What a copy is told of another.
use Rattle.std.specs.Prelude.{◌≡◌, ℤ, List}
use Rattle.cover_ranges.specs.Runs.{Runs}
use Rattle.deltas.specs.Entries.{Entry}
use Rattle.deltas.specs.Deltas.{Delta, IsDelta}

-- A valid delta, by its parts: the sender starts there, tells these entries, and has seen these offsets. A delta that came
-- as bytes is told so, and so is another copy, as its delta for which nothing was asked.
pub record IsTold (start : ℤ) (tells : List Entry → Type 0) (has_seen : Runs → Type 0) (e : Delta) : Type 0 where
  pub valid : IsDelta e
  pub start_is : start ≡ e.start
  pub entries : tells e.entries
  pub cover : has_seen e.cover
