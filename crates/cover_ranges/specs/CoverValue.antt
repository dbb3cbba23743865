-- What contracts see of a cover.
use Rattle.std.specs.Prelude.{ℕ, ◌<◌}
use Rattle.cover_ranges.specs.Runs.{Runs}

-- the set as its maximal runs, and how many more of these can be kept with no more memory
pub record CoverValue : Type 0 where
  pub runs : Runs
  pub room : ℕ

-- the next insertion needs no memory
abbrev pub HasRoom : CoverValue → Type 0
HasRoom cover = 0 < cover.room
