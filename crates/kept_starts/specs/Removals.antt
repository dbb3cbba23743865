-- What a start removes of a directory.
use Rattle.std.specs.Prelude.{◌≡◌, ◌⊎◌, ℕ, ◌+◌, ◌<◌, ◌≤◌, Bool, true, is_some, List, Option, Some}
use Rattle.broker_state.specs.State.{ConfigValue, State}
use Rattle.data_directory.specs.declared.names.Name.{Name}
use Rattle.data_directory.specs.declared.names.Name.TheVariants.{Snapshot, Journal, Making}
use Rattle.data_directory.specs.Directories.{DirectoryState, IsThere, KeepsOthers}
use Rattle.kept_rotations.specs.declared.files.KeptFiles.{KeptFiles}
use Rattle.kept_rotations.specs.Moments.{AreOfMoment, id_of}
use Rattle.kept_rotations.specs.Steps.{IsBelow}
use Rattle.kept_starts.specs.declared.snapshot.Shape.{Shape}
use Rattle.kept_starts.specs.declared.standing.Row.{Row}
use Rattle.kept_starts.specs.declared.starting.Found.{Found}
use Rattle.kept_starts.specs.Growth.{HoldsStill}
use Rattle.kept_starts.specs.Rows.{IsShortened, IsTakenRow, IsTopRow, WasBeingMade}
use Rattle.kept_starts.specs.Starts.{AreTaken, IsBehind, LeadAsAsked}

-- the name of a snapshot in the making, of the journal behind the last one, or of a file below the snapshot
abbrev pub IsOld : (snapshot last : ℕ) → Name → Type 0
IsOld snapshot last name = (name ≡ Making) ⊎ ((name ≡ Journal (last + 1)) ⊎ IsBelow snapshot name)

-- the snapshot of this number is there, whole, of what a broker holds, and its journal
abbrev pub HasWholeRow : DirectoryState → ℕ → State → Type 0
HasWholeRow d number s =
    IsThere d (Snapshot number) true × IsThere d (Journal number) true × ((key : List ℕ) × AreOfMoment (d.bytes number) (id_of number key) s)

-- it is, if the journal of a number was there before
abbrev pub HasRowThen : (d d' : DirectoryState) (last number : ℕ) → State → Type 0
HasRowThen d d' last number s = IsThere d (Journal last) true → HasWholeRow d' number s

-- No other name changes than such ones of the files that were found; or a snapshot was taken behind them, which is there, of what the broker holds,
-- with its journal.
abbrev pub Removes : (d d' : DirectoryState) → Found → KeptFiles → State → Type 0
Removes d d' found files now =
    KeepsOthers (IsOld found.snapshot found.journal) d d'
    ⊎ (IsBehind found files × HasWholeRow d' files.last now)

-- ---- where a start stops

-- a name of what is of no use, or of a snapshot behind that of these files
abbrev pub IsOfStart : (snapshot last : ℕ) → Name → Type 0
IsOfStart snapshot last name = IsOld snapshot last name ⊎ ((number : ℕ) × (snapshot < number) × (name ≡ Snapshot number))

-- The files were taken, and lead to some state. Nothing else was touched than names that are of no use to a start, and those of a new snapshot; or
-- that is whole, of this state.
pub record StopsBehind {F : Type 0} (d : DirectoryState) (gives : Name → F → Type 0) (seen : F → Option (List ℕ)) (asked : ConfigValue) (shape : Shape) (found : Row)
    (d' : DirectoryState) : Type 0 where
  pub taken : Row
  pub is_grown : Bool
  pub led : State
  pub shortens : IsShortened found taken
  pub row : IsTopRow d found.snapshot found.last → IsTakenRow d gives seen taken.snapshot taken.last
  pub lead : LeadAsAsked d gives seen asked shape is_grown taken.snapshot taken.last led
  pub names : KeepsOthers (IsOfStart taken.snapshot taken.last) d d' ⊎ ((number : ℕ) × (taken.snapshot < number) × HasWholeRow d' number led)

-- nothing has changed; or that
abbrev pub StopsStanding : {F : Type 0} (d : DirectoryState) (gives : Name → F → Type 0) (seen : F → Option (List ℕ)) (asked : ConfigValue) (shape : Shape) (found : Row)
    (d' : DirectoryState) → Type 0
StopsStanding d gives seen asked shape found d' = (d' ≡ d) ⊎ StopsBehind d gives seen asked shape found d'

-- a snapshot is whole, of this number or a higher one, which says what a broker held, or more
abbrev pub StaysWhole : (knows : Type 0) → DirectoryState → (number : ℕ) → (led : State) → Type 0
StaysWhole knows d number led =
    (higher : ℕ) × (base : State) × (number ≤ higher) × ((base ≡ led) ⊎ HoldsStill knows led base) × HasWholeRow d higher base

-- ---- the row that stood

-- Where it is known which names are there: the highest snapshot was, and the journals from its number up to the last one.
pub record RowStood (d : DirectoryState) (snapshot last : ℕ) : Type 0 where
  pub known : (name : Name) → is_some (d.there name) ≡ true
  pub top : IsTopRow d snapshot last
  pub first : d.there (Snapshot snapshot) ≡ Some true
  pub end : d.there (Journal last) ≡ Some true

-- the name of its snapshot, or of one of its journals
abbrev pub IsOfRow : (snapshot last : ℕ) → Name → Type 0
IsOfRow snapshot last name = (name ≡ Snapshot snapshot) ⊎ ((number : ℕ) × (snapshot ≤ number) × (number ≤ last) × (name ≡ Journal number))

-- the last journal, where that was being made
abbrev pub IsUnfinished : {F : Type 0} (d : DirectoryState) (gives : Name → F → Type 0) (seen : F → Option (List ℕ)) (snapshot last : ℕ) → Name → Type 0
IsUnfinished d gives seen snapshot last name = (name ≡ Journal last) × (snapshot < last) × WasBeingMade d gives seen last

-- each file of the row has its name still, whole as before, but for a last journal that was being made
abbrev pub StaysThere : {F : Type 0} (d : DirectoryState) (gives : Name → F → Type 0) (seen : F → Option (List ℕ)) (snapshot last : ℕ) (d' : DirectoryState) → Type 0
StaysThere d gives seen snapshot last d' =
    (name : Name) → d.there name ≡ Some true → IsOfRow snapshot last name → (IsUnfinished d gives seen snapshot last name → ⊥)
    → (d'.there name ≡ Some true) × (d'.whole name ≡ d.whole name)

-- a whole snapshot stands behind the row, of what its files lead to, or of more
abbrev pub IsReplaced : {F : Type 0} (knows : Type 0) (d : DirectoryState) (gives : Name → F → Type 0) (seen : F → Option (List ℕ)) (snapshot : ℕ) (d' : DirectoryState) → Type 0
IsReplaced knows d gives seen snapshot d' =
    (last number : ℕ) × (led base : State) × (snapshot < number) × AreTaken d gives seen snapshot last led
    × ((base ≡ led) ⊎ HoldsStill knows led base) × HasWholeRow d' number base

-- of a row that stood no name goes, unless a whole snapshot stands behind it
abbrev pub KeepsRow : {F : Type 0} (knows : Type 0) (d : DirectoryState) (gives : Name → F → Type 0) (seen : F → Option (List ℕ)) (d' : DirectoryState) → Type 0
KeepsRow knows d gives seen d' =
    (snapshot last : ℕ) → RowStood d snapshot last → StaysThere d gives seen snapshot last d' ⊎ IsReplaced knows d gives seen snapshot d'
