-- A delta in bytes, from the first to the last. The form is this project's own.
use Rattle.std.specs.Prelude.{◌≡◌, ℕ, ◌≤◌, ◌⊎◌, ℤ, pos, List, [], ◌∷◌, ◌++◌, length}
use Rattle.std.specs.List.{flat_map}
use Rattle.std.specs.Int.{w16, w32, w64}
use Rattle.batch_codec.specs.Grammar.{fields, signed}
use Rattle.cover_ranges.specs.Runs.{Runs}
use Rattle.copy_images.specs.declared.layout.TheConstants.{VERSION, FIRST_VERSION, MAX_COUNT}
use Rattle.copy_images.specs.Images.{with_crc}
use Rattle.deltas.specs.Entries.{Entry}
use Rattle.deltas.specs.Deltas.{Delta, IsDelta}
use Rattle.delta_bytes.specs.declared.layout.TheConstants.{MARK}
use Rattle.delta_bytes.specs.EntryBytes.{entry_bytes}
use Rattle.delta_bytes.specs.RangeLists.{count_encoding, ranges_encoding}

-- what a delta begins with: the mark, the version and the sender's log start
unfoldable pub front_of : (start : ℤ) → List ℕ
front_of start = fields ((w32, MARK) ∷ signed w16 VERSION ∷ signed w64 start ∷ [])

-- what a delta of version 0 begins with: it has no log start
unfoldable pub first_front : List ℕ
first_front = fields ((w32, MARK) ∷ signed w16 FIRST_VERSION ∷ [])

-- the entries behind their count
abbrev pub entries_encoding : List Entry → List ℕ
entries_encoding entries = count_encoding (pos (length entries)) ++ flat_map entry_bytes entries

-- all that stands between the front and the crc
abbrev pub body_encoding : Delta → List ℕ
body_encoding e = ranges_encoding e.cover ++ (ranges_encoding e.asked ++ entries_encoding e.entries)

-- the bytes that are written
abbrev pub delta_encoding : Delta → List ℕ
delta_encoding e = with_crc (front_of e.start ++ body_encoding e)

-- those of version 0, of a sender that starts at 0
abbrev pub first_encoding : Delta → List ℕ
first_encoding e = with_crc (first_front ++ body_encoding e)

-- These bytes are a valid delta whose ranges and entries can be counted: as it is written, or in version 0 where the
-- sender starts at 0.
pub record IsDeltaOf (bytes : List ℕ) (e : Delta) : Type 0 where
  pub valid : IsDelta e
  pub ranges : length e.cover ≤ MAX_COUNT
  pub asked : length e.asked ≤ MAX_COUNT
  pub entries : length e.entries ≤ MAX_COUNT
  pub encoded : (bytes ≡ delta_encoding e) ⊎ ((e.start ≡ pos 0) × (bytes ≡ first_encoding e))

abbrev pub delta_with : (start : ℤ) (cover asked : Runs) (entries : List Entry) → Delta
delta_with start cover asked entries = record { start = start; cover = cover; asked = asked; entries = entries }

-- the bytes are a delta with this start and these ranges, and with the entries that stand in `more` behind their count
pub record IsDeltaAt (bytes : List ℕ) (start : ℤ) (cover asked : Runs) (more : List ℕ) : Type 0 where
  pub entries : List Entry
  pub delta : IsDeltaOf bytes (delta_with start cover asked entries)
  pub entries_are : more ≡ entries_encoding entries
