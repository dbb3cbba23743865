-- Words of private clauses: the parts of an entry as they are judged.
use Rattle.std.specs.Prelude.{◌≡◌, ℕ, ◌≤◌, ℤ, ◌≤ℤ◌, FitsSigned, Bool, false, int_le, List, [], ◌∷◌, ◌++◌, length, map}
use Rattle.std.specs.List.{AllByRecursion}
use Rattle.std.specs.Int.{w64, from_be_bytes, cast_signed}
use Rattle.cover_ranges.specs.Runs.{Runs}
use Rattle.copy_images.specs.declared.layout.TheConstants.{MAX_COUNT}
use Rattle.delta_bytes.specs.declared.entry.EntryError.{EntryError}
use Rattle.delta_bytes.specs.declared.entry.EntryError.TheVariants.{Bad, Unseen}
use Rattle.deltas.specs.Entries.{Entry, OffsetsRise, IsWithin, entry_last}
use Rattle.delta_bytes.specs.EntryBytes.{list_encoding, entry_bytes, IsNext}

-- the offset that eight bytes say
abbrev pub offset_at : List ℕ → ℤ
offset_at bytes = cast_signed w64 (from_be_bytes w64 bytes)

abbrev pub offsets_of : List (List ℕ) → List ℤ
offsets_of parts = map offset_at parts

-- a base and offsets that a list can have in bytes: of 64 bits, and no more than can be counted
pub record IsListable (base : ℤ) (offsets : List ℤ) : Type 0 where
  pub base_fits : FitsSigned w64 base
  pub offsets_fit : AllByRecursion (FitsSigned w64) offsets
  pub counted : length offsets ≤ MAX_COUNT

-- a list of these offsets stands at the front, whether they rise or not
pub record IsListAt (base : ℤ) (offsets : List ℤ) (bytes : List ℕ) : Type 0 where
  pub listable : IsListable base offsets
  pub rest : List ℕ
  pub encoded : bytes ≡ list_encoding base offsets ++ rest

-- a list that may follow entries that end before `low`
pub record IsNextList (low base : ℤ) (offsets : List ℤ) (bytes : List ℕ) : Type 0 where
  pub from_low : low ≤ℤ base
  pub rise : OffsetsRise base offsets
  pub list : IsListAt base offsets bytes

-- whether there is a run, and the first one starts at `last` or before
unfoldable pub first_starts_by : ℤ → Runs → Bool
first_starts_by last [] = false
first_starts_by last (run ∷ runs) = int_le run.0 last

-- the next entry may stand there; it ends at `last` and takes `size` bytes
pub record IsEntryAt (runs asked : Runs) (low : ℤ) (bytes : List ℕ) (last : ℤ) (size : ℕ) : Type 0 where
  pub entry : Entry
  pub next : IsNext low entry bytes
  pub within : IsWithin runs asked entry
  pub last_is : last ≡ entry_last entry
  pub size_is : size ≡ length (entry_bytes entry)

-- why the next entry is refused: there is none, or the first valid one is not within what was seen and asked
abbrev pub RefusesEntry : (runs asked : Runs) → (low : ℤ) → List ℕ → EntryError → Type 0
RefusesEntry runs asked low bytes Bad = (x : Entry) → IsNext low x bytes → ⊥
RefusesEntry runs asked low bytes Unseen = (x : Entry) × IsNext low x bytes × ¬ IsWithin runs asked x
