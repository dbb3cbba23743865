-- Why the bytes between the front of a delta and its crc are refused: the first fault, in the order of the checks. Each
-- fault stands in the bytes while all earlier checks hold of them.
use Rattle.std.specs.Prelude.{◌≡◌, ℕ, ◌<◌, ◌⊎◌, ℤ, pos, ◌<ℤ◌, List, [], ◌++◌, length}
use Rattle.std.specs.List.{flat_map}
use Rattle.cover_ranges.specs.Runs.{Runs}
use Rattle.copy_images.specs.declared.layout.TheConstants.{COUNT_SIZE}
use Rattle.deltas.specs.Entries.{Entry, IsWithin, AreEntries}
use Rattle.deltas.specs.declared.TheConstants.{LEAST_BASE}
use Rattle.delta_bytes.specs.declared.error.EntriesError.{EntriesError}
use Rattle.delta_bytes.specs.declared.error.EntriesError.TheVariants.{BadBatch, Outside, Extra}
use Rattle.delta_bytes.specs.declared.error.BodyError.{BodyError}
use Rattle.delta_bytes.specs.declared.error.BodyError.TheVariants.{InRanges, InEntries}
use Rattle.delta_bytes.specs.EntryBytes.{entry_bytes, low_after, IsNext}
use Rattle.delta_bytes.specs.RangeLists.{count_encoding, count_in, HasRanges, RangesFault}

-- ---- the entries

-- valid entries stand behind a count, and a rest behind them; the count may be another than theirs
pub record HasItems (runs asked : Runs) (bytes : List ℕ) (entries : List Entry) (rest : List ℕ) : Type 0 where
  pub encoded : bytes ≡ count_encoding (count_in bytes) ++ (flat_map entry_bytes entries ++ rest)
  pub valid : AreEntries runs asked LEAST_BASE entries

-- as many as are counted, and nothing behind them
abbrev pub AreAllItems : (runs asked : Runs) (bytes : List ℕ) (entries : List Entry) → Type 0
AreAllItems runs asked bytes entries = HasItems runs asked bytes entries [] × (pos (length entries) ≡ count_in bytes)

abbrev pub ItemsFault : (runs asked : Runs) (bytes : List ℕ) → EntriesError → Type 0
-- the count is negative; or entries should follow, and no valid one stands next
ItemsFault runs asked bytes (BadBatch i) =
    ((i ≡ 0) × (count_in bytes <ℤ pos 0))
    ⊎ ((entries : List Entry) × (rest : List ℕ) × HasItems runs asked bytes entries rest × (length entries ≡ i)
    × (pos i <ℤ count_in bytes) × ((x : Entry) → IsNext (low_after entries) x rest → ⊥))
-- the next is valid, but that it tells of what was not seen, or sends what was asked for
ItemsFault runs asked bytes Outside =
    (entries : List Entry) × (rest : List ℕ) × (x : Entry) × HasItems runs asked bytes entries rest
    × (pos (length entries) <ℤ count_in bytes) × IsNext (low_after entries) x rest × ¬ IsWithin runs asked x
-- all are valid, and bytes follow them
ItemsFault runs asked bytes Extra =
    (entries : List Entry) × (rest : List ℕ) × HasItems runs asked bytes entries rest
    × (pos (length entries) ≡ count_in bytes) × (0 < length rest)

-- ---- all of it

-- the sender's ranges from its start on, the asked ones, and in `more` the entries behind their count
pub record HasBody (start : ℤ) (bytes : List ℕ) (runs asked : Runs) (more : List ℕ) (entries : List Entry) : Type 0 where
  pub rest : List ℕ
  pub ranges : HasRanges start 0 bytes runs rest
  pub asked_ranges : HasRanges (pos 0) COUNT_SIZE rest asked more
  pub items : AreAllItems runs asked more entries

abbrev pub BodyFault : (start : ℤ) (bytes : List ℕ) → BodyError → Type 0
-- in the sender's ranges, or in the asked ones behind them
BodyFault start bytes (InRanges e) =
    RangesFault start 0 bytes e
    ⊎ ((runs : Runs) × (rest : List ℕ) × HasRanges start 0 bytes runs rest × RangesFault (pos 0) COUNT_SIZE rest e)
BodyFault start bytes (InEntries e) =
    (runs : Runs) × (rest : List ℕ) × (asked : Runs) × (more : List ℕ) × HasRanges start 0 bytes runs rest
    × HasRanges (pos 0) COUNT_SIZE rest asked more × ItemsFault runs asked more e
