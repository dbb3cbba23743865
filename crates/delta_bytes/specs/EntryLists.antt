-- Words of private clauses: so many entries one after another, and the first fault of bytes that should be that.
use Rattle.std.specs.Prelude.{◌≡◌, ℕ, ◌<◌, List, [], ◌++◌, length}
use Rattle.std.specs.List.{flat_map}
use Rattle.cover_ranges.specs.Runs.{Runs}
use Rattle.deltas.specs.declared.TheConstants.{LEAST_BASE}
use Rattle.delta_bytes.specs.declared.error.EntriesError.{EntriesError}
use Rattle.delta_bytes.specs.declared.error.EntriesError.TheVariants.{BadBatch, Outside, Extra}
use Rattle.deltas.specs.Entries.{Entry, IsWithin, AreEntries}
use Rattle.delta_bytes.specs.EntryBytes.{entry_bytes, low_after, IsNext}

-- valid entries stand at the front, and a rest behind them
pub record HasEntries (runs asked : Runs) (entries : List Entry) (bytes rest : List ℕ) : Type 0 where
  pub encoded : bytes ≡ flat_map entry_bytes entries ++ rest
  pub valid : AreEntries runs asked LEAST_BASE entries

-- so many entries, and nothing behind them
abbrev pub HoldsEntries : (runs asked : Runs) → (count : ℕ) → List ℕ → Type 0
HoldsEntries runs asked count bytes =
    (entries : List Entry) × HasEntries runs asked entries bytes [] × (length entries ≡ count)

-- The first fault of bytes that should be so many entries: no valid entry stands where the next one should; one does,
-- and tells of what was not seen, or sends what was asked for; or all are there, and bytes follow.
abbrev pub EntriesFault : (runs asked : Runs) → (count : ℕ) → List ℕ → EntriesError → Type 0
EntriesFault runs asked count bytes (BadBatch i) =
    (entries : List Entry) × (rest : List ℕ) × HasEntries runs asked entries bytes rest × (length entries ≡ i)
    × (i < count) × ((x : Entry) → IsNext (low_after entries) x rest → ⊥)
EntriesFault runs asked count bytes Outside =
    (entries : List Entry) × (rest : List ℕ) × (x : Entry) × HasEntries runs asked entries bytes rest
    × (length entries < count) × IsNext (low_after entries) x rest × ¬ IsWithin runs asked x
EntriesFault runs asked count bytes Extra =
    (entries : List Entry) × (rest : List ℕ) × HasEntries runs asked entries bytes rest × (length entries ≡ count)
    × (0 < length rest)
