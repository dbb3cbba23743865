-- Words of private clauses: the parts of an image as they are judged and kept.
use Rattle.std.specs.Prelude.{◌≡◌, ℕ, ◌-◌, ◌<◌, ℤ, pos, ◌<ℤ◌, Bool, false, ◌&&◌, int_lt, int_le, List, [], ◌∷◌, ◌++◌, length, map, take, if◌then◌else◌}
use Rattle.std.specs.List.{AllByRecursion, flat_map}
use Rattle.std.specs.Int.{w64}
use Rattle.batch_codec.specs.Values.{BatchValue}
use Rattle.batch_codec.specs.Grammar.{batch_encoding}
use Rattle.batch_codec.specs.Fields.{signed_at}
use Rattle.batch_codec.specs.Offsets.{first_offset, last_offset}
use Rattle.cover_ranges.specs.Runs.{Runs, CoversAll}
use Rattle.content.specs.Records.{IsKeepable}
use Rattle.content.specs.Content.{Content, IsContent}
use Rattle.segment.specs.BatchLists.{IsBatchList}
use Rattle.copy_images.specs.declared.layout.TheConstants.{CRC_SIZE}
use Rattle.copy_images.specs.declared.error.ImageError.{ImageError}
use Rattle.copy_images.specs.declared.error.ImageError.TheVariants.{BadBatch, Outside, Extra}
use Rattle.copy_images.specs.Refusals.{IsLogStart, IsCoverFrom, IsNext, end_of_batches}

-- the bytes that the crc covers
abbrev pub covered : List ℕ → List ℕ
covered bytes = take (length bytes - CRC_SIZE) bytes

-- ---- ranges

-- the range that sixteen bytes say
unfoldable pub range_at : List ℕ → ℤ × ℤ
range_at bytes = (signed_at w64 0 bytes, signed_at w64 8 bytes)

abbrev pub ranges_of : List (List ℕ) → Runs
ranges_of parts = map range_at parts

-- the runs from the first on that ends at the offset or later
unfoldable pub ending_from : ℤ → Runs → Runs
ending_from offset [] = []
ending_from offset (run ∷ runs) = if int_lt run.1 offset then ending_from offset runs else run ∷ runs

-- whether the first run holds all offsets from `first` to `last`
unfoldable pub first_holds : ℤ → ℤ → Runs → Bool
first_holds first last [] = false
first_holds first last (run ∷ runs) = int_le run.0 first && int_le last run.1

-- ---- batches

-- the bytes are the encodings of batches that a copy with these ranges may keep, and a rest
pub record HasKept (ranges : Runs) (batches : List BatchValue) (bytes rest : List ℕ) : Type 0 where
  pub encoded : bytes ≡ flat_map batch_encoding batches ++ rest
  pub list : IsBatchList batches
  pub keepable : AllByRecursion IsKeepable batches
  pub seen : AllByRecursion (λ b. CoversAll ranges (first_offset b) (last_offset b)) batches

-- so many batches, and nothing behind them
abbrev pub HoldsBatches : Runs → ℤ → List ℕ → Type 0
HoldsBatches ranges count bytes =
    (batches : List BatchValue) × HasKept ranges batches bytes [] × (pos (length batches) ≡ count)

-- the first fault of bytes that should be so many batches
abbrev pub BatchesFault : Runs → ℤ → List ℕ → ImageError → Type 0
BatchesFault ranges count bytes (BadBatch i) =
    (batches : List BatchValue) × (rest : List ℕ) × HasKept ranges batches bytes rest
    × (length batches ≡ i) × (pos i <ℤ count) × ((b : BatchValue) → IsNext (end_of_batches batches) b rest → ⊥)
BatchesFault ranges count bytes Outside =
    (batches : List BatchValue) × (rest : List ℕ) × (b : BatchValue) × HasKept ranges batches bytes rest
    × (pos (length batches) <ℤ count) × IsNext (end_of_batches batches) b rest
    × ¬ CoversAll ranges (first_offset b) (last_offset b)
BatchesFault ranges count bytes Extra =
    (batches : List BatchValue) × (rest : List ℕ) × HasKept ranges batches bytes rest
    × (pos (length batches) ≡ count) × (0 < length rest)
BatchesFault ranges count bytes _ = ⊥

-- ---- what is built

-- a start, the ranges of a copy with that start, and so many batches of it
pub record AreJudged (from : ℤ) (ranges : Runs) (count : ℤ) (bytes : List ℕ) : Type 0 where
  pub start : IsLogStart from
  pub cover : IsCoverFrom from ranges
  pub batches : HoldsBatches ranges count bytes

-- the bytes are the encodings of these batches, which a store can keep
pub record IsEncoded (batches : List BatchValue) (bytes : List ℕ) : Type 0 where
  pub encoded : bytes ≡ flat_map batch_encoding batches
  pub list : IsBatchList batches

-- a valid content with this start and these ranges, whose batches these bytes encode
pub record IsBuilt (from : ℤ) (ranges : Runs) (bytes : List ℕ) (c : Content) : Type 0 where
  pub content : IsContent c
  pub start : c.start ≡ from
  pub cover : c.cover ≡ ranges
  pub encoded : IsEncoded c.kept bytes
