-- Which files of a directory a start takes. This project's own; Kafka's documentation has its like in "Operations", section
-- "Snapshots" of KRaft.
use Rattle.std.specs.Prelude.{◌≡◌, ◌≢◌, ◌⊎◌, ℕ, ◌+◌, ◌-◌, ◌<◌, ◌≤◌, true, false, List, length, Option, IfSome}
use Rattle.std.specs.List.{Contains}
use Rattle.data_directory.specs.declared.names.Name.{Name}
use Rattle.data_directory.specs.declared.names.Name.TheVariants.{Snapshot, Journal}
use Rattle.data_directory.specs.Directories.{DirectoryState, IsThere}
use Rattle.kept_starts.specs.Numbers.{HaveNone}
use Rattle.kept_starts.specs.declared.standing.Row.{Row}
use Rattle.journal.specs.declared.layout.TheConstants.{HEAD_SIZE}

-- No snapshot with a higher number is there, and no journal behind the last one.
pub record IsTopRow (d : DirectoryState) (snapshot last : ℕ) : Type 0 where
  pub in_order : snapshot ≤ last
  pub no_higher : (number : ℕ) → snapshot < number → IsThere d (Snapshot number) false
  pub no_later : (number : ℕ) → last < number → IsThere d (Journal number) false

-- A file of this name is there, and opening it by its name gave this one.
pub record IsFileOf {F : Type 0} (d : DirectoryState) (gives : Name → F → Type 0) (name : Name) (file : F) : Type 0 where
  pub there : IsThere d name true
  pub given : gives name file

-- A journal was being made: its file has no room for a group.
pub record WasBeingMade {F : Type 0} (d : DirectoryState) (gives : Name → F → Type 0) (seen : F → Option (List ℕ)) (number : ℕ) : Type 0 where
  pub file : F
  pub is_its : IsFileOf d gives (Journal number) file
  pub short : IfSome (seen file) (λ bytes. length bytes ≤ HEAD_SIZE)

-- No snapshot with a higher number is there, and no journal behind the last one, but for one that was being made perhaps.
pub record IsTakenRow {F : Type 0} (d : DirectoryState) (gives : Name → F → Type 0) (seen : F → Option (List ℕ)) (snapshot last : ℕ) : Type 0 where
  pub in_order : snapshot ≤ last
  pub no_higher : (number : ℕ) → snapshot < number → IsThere d (Snapshot number) false
  pub next : IsThere d (Journal (last + 1)) false ⊎ WasBeingMade d gives seen (last + 1)
  pub no_later : (number : ℕ) → last + 1 < number → IsThere d (Journal number) false

-- the row is the one that was found, or has all but its last journal, which isn't that of the snapshot
abbrev pub IsShortened : (found row : Row) → Type 0
IsShortened found row = (row.snapshot ≡ found.snapshot) × ((row.last ≡ found.last) ⊎ ((found.snapshot < found.last) × (row.last ≡ found.last - 1)))

-- No snapshot is there, and no journal but the first one perhaps, if that was being made.
pub record HasNone {F : Type 0} (d : DirectoryState) (gives : Name → F → Type 0) (seen : F → Option (List ℕ)) : Type 0 where
  pub no_snapshot : (number : ℕ) → IsThere d (Snapshot number) false
  pub no_other : (number : ℕ) → number ≢ 1 → IsThere d (Journal number) false
  pub first : IsThere d (Journal 1) false ⊎ WasBeingMade d gives seen 1

-- there is none of these journals; or there is but the first one, which was being made
abbrev pub AreNone : {F : Type 0} (d : DirectoryState) (gives : Name → F → Type 0) (seen : F → Option (List ℕ)) (journals : List ℕ) → Type 0
AreNone d gives seen journals = HaveNone journals ⊎ (((number : ℕ) → Contains journals number → number ≡ 1) × WasBeingMade d gives seen 1)
