-- The two lists of ranges of a delta, the sender's and the asked one, each behind its count; and the first fault of
-- bytes that should begin with one.
use Rattle.std.specs.Prelude.{◌≡◌, ℕ, ◌+◌, ◌*◌, ◌<◌, ◌≤◌, ◌⊎◌, ℤ, pos, ◌≤ℤ◌, ◌<ℤ◌, List, [], ◌∷◌, ◌++◌, length, unsigned_abs}
use Rattle.std.specs.List.{AllByRecursion, flat_map}
use Rattle.std.specs.Int.{w32}
use Rattle.batch_codec.specs.Grammar.{fields, signed}
use Rattle.batch_codec.specs.Fields.{signed_at}
use Rattle.cover_ranges.specs.Runs.{Runs}
use Rattle.copy_images.specs.declared.layout.TheConstants.{RANGE_SIZE, COUNT_SIZE, MAX_COUNT}
use Rattle.copy_images.specs.Images.{range_encoding}
use Rattle.copy_images.specs.Refusals.{FitsInt64, IsCoverFrom}
use Rattle.delta_bytes.specs.declared.error.RangesError.{RangesError}
use Rattle.delta_bytes.specs.declared.error.RangesError.TheVariants.{Short, BadCover}

-- a count that stands in bytes
abbrev pub count_encoding : ℤ → List ℕ
count_encoding count = fields (signed w32 count ∷ [])

-- the count that stands in front
abbrev pub count_in : List ℕ → ℤ
count_in bytes = signed_at w32 0 bytes

-- ranges behind their count
unfoldable pub ranges_encoding : Runs → List ℕ
ranges_encoding ranges = count_encoding (pos (length ranges)) ++ flat_map range_encoding ranges

-- Ranges of numbers of 64 bits stand at the front, and a rest of `behind` bytes or more follows them.
pub record IsRangeList (behind : ℕ) (bytes : List ℕ) (ranges : Runs) (rest : List ℕ) : Type 0 where
  pub encoded : bytes ≡ ranges_encoding ranges ++ rest
  pub fit : AllByRecursion FitsInt64 ranges
  pub counted : length ranges ≤ MAX_COUNT
  pub long : behind ≤ length rest

-- they are maximal, and none begins below `low`
abbrev pub HasRanges : (low : ℤ) (behind : ℕ) (bytes : List ℕ) (ranges : Runs) (rest : List ℕ) → Type 0
HasRanges low behind bytes ranges rest = IsRangeList behind bytes ranges rest × IsCoverFrom low ranges

-- The first fault: the count, the ranges or the bytes behind them are not all there; the count is negative, or all
-- ranges are there, and are none from `low` on.
abbrev pub RangesFault : (low : ℤ) (behind : ℕ) (bytes : List ℕ) → RangesError → Type 0
RangesFault low behind bytes Short =
    (length bytes < COUNT_SIZE)
    ⊎ ((pos 0 ≤ℤ count_in bytes) × (length bytes < COUNT_SIZE + RANGE_SIZE * unsigned_abs (count_in bytes) + behind))
RangesFault low behind bytes BadCover =
    ((COUNT_SIZE ≤ length bytes) × (count_in bytes <ℤ pos 0))
    ⊎ ((ranges : Runs) × (rest : List ℕ) × IsRangeList behind bytes ranges rest × ¬ IsCoverFrom low ranges)
