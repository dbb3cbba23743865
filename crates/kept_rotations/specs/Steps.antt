-- What one step of a rotation does to a directory. This project's own; Kafka's documentation has its like in "Operations", section
-- "Snapshots" of KRaft.
use Rattle.std.specs.Prelude.{◌≡◌, ◌≢◌, ◌⊎◌, ℕ, ◌+◌, ◌-◌, ◌^◌, ◌<◌, ◌≤◌, min, Bool, true, false, List, Option, None, Some, IfSome, is_some}
use Rattle.broker_state.specs.State.{State}
use Rattle.snapshots.specs.declared.writing.SnapshotId.{SnapshotId}
use Rattle.snapshot_drafts.specs.Parts.{DraftState}
use Rattle.snapshot_drafts.specs.Drafts.{IsDraftOf}
use Rattle.data_directory.specs.declared.names.Name.{Name}
use Rattle.data_directory.specs.declared.names.Name.TheVariants.{Snapshot, Journal, Making}
use Rattle.data_directory.specs.Directories.{DirectoryState, IsThere, Becomes, IsName, KeepsOthers, KeepsCertain, AreCertain, IsPublished}
use Rattle.kept_sessions.specs.Keeping.{KeptState}
use Rattle.kept_sessions.specs.Noting.{IsClear}
use Rattle.kept_rotations.specs.declared.files.KeptFiles.{KeptFiles}
use Rattle.kept_rotations.specs.declared.rotation.TheConstants.{PATIENCE}
use Rattle.kept_rotations.specs.GoingOn.{HasHeadAlone, IsFresh, IsSame, stood_of}
use Rattle.kept_rotations.specs.Moments.{RotationState, WritesMoment, AreOfMoment, id_of}

-- ---- names

-- the snapshot or the journal of this number
abbrev pub IsOfNumber : ℕ → Name → Type 0
IsOfNumber number name = (name ≡ Journal number) ⊎ (name ≡ Snapshot number)

-- one of a lower number
abbrev pub IsBelow : ℕ → Name → Type 0
IsBelow number name = (lower : ℕ) × (lower < number) × IsOfNumber lower name

-- the journal behind the last one, or a snapshot in the making
abbrev pub IsNext : (last : ℕ) → Name → Type 0
IsNext last name = (name ≡ Journal (last + 1)) ⊎ (name ≡ Making)

-- that, or the snapshot of the last one's number
abbrev pub IsTried : (last : ℕ) → Name → Type 0
IsTried last name = IsNext last name ⊎ (name ≡ Snapshot last)

-- all names that are there are on the disk for certain, but that of a snapshot in the making perhaps
abbrev pub AreKept : DirectoryState → Type 0
AreKept d = (name : Name) → name ≢ Making → d.certain name ≡ d.there name

-- no file has the name, for certain
abbrev pub IsGone : DirectoryState → Name → Type 0
IsGone d name = IsThere d name false × (d.certain name ≡ d.there name)

-- a file that has the name keeps it
abbrev pub IsSpared : Name → (d d' : DirectoryState) → Type 0
IsSpared name d d' = d.there name ≡ Some true → d'.there name ≡ Some true

-- whether a journal of this number is there is as before; or none is, for certain
abbrev pub IsUnmade : ℕ → (d d' : DirectoryState) → Type 0
IsUnmade number d d' = (d'.there (Journal number) ≡ d.there (Journal number)) ⊎ IsGone d' (Journal number)

-- the snapshot that is being written, if one is, is the last one that was made in the directory
abbrev pub IsTheOne : {F : Type 0} (number : F → ℕ) → RotationState F → DirectoryState → Type 0
IsTheOne {F} number r d = (draft : DraftState F) → r.draft ≡ Some draft → number draft.file ≡ d.making

-- ---- times

-- what rested rests no more, or nothing did
abbrev pub IsOver : (rests : Option ℕ) (clock : ℕ) → Type 0
IsOver rests clock = IfSome rests (λ until. until ≤ clock)

-- until when what failed at this time rests
abbrev pub later_than : ℕ → ℕ
later_than clock = min (clock + PATIENCE) (2 ^ 64 - 1)

-- ---- steps

-- the snapshot of a number is there as before, with its bytes, or isn't there as before
abbrev pub IsUntouched : ℕ → (d d' : DirectoryState) → Type 0
IsUntouched number d d' = (d'.there (Snapshot number) ≡ d.there (Snapshot number)) × (d'.bytes number ≡ d.bytes number)

-- The snapshot of a number is untouched; or a draft has got its name, with the bytes of the snapshot that the draft is of.
abbrev pub NamesDraft : {F : Type 0} (seen : F → Option (List ℕ)) (number : ℕ) (draft : DraftState F) (d d' : DirectoryState) → Type 0
NamesDraft seen number draft d d' =
    IsUntouched number d d'
    ⊎ (Becomes (Snapshot number) true d d' × ((id : SnapshotId) (base : State) → IsDraftOf seen id base draft → AreOfMoment (d'.bytes number) id base))

-- The snapshot that was being written has got its name, and is whole.
pub record IsNamed {D F : Type 0} (seen : F → Option (List ℕ)) (k : KeptState D) (old : RotationState F) (d d' : DirectoryState) : Type 0 where
  pub was_written : is_some old.draft ≡ true
  pub there : Becomes (Snapshot old.files.last) true d d'
  pub moment : (base : State) → WritesMoment seen base k old → AreOfMoment (d'.bytes old.files.last) (id_of old.files.last k.journal.key) base

-- the snapshot of the last number is untouched; or the one that was being written has got this name, in a call that failed
abbrev pub MayBeNamed : {D F : Type 0} (seen : F → Option (List ℕ)) (k : KeptState D) (old : RotationState F) (d d' : DirectoryState) → Type 0
MayBeNamed seen k old d d' = IsUntouched old.files.last d d' ⊎ IsNamed seen k old d d'

-- The same files count as before, and the snapshot that is being written goes on, or is given up. If a journal was to be made, there
-- is none behind the last one, for certain; but one that somebody else made there stays.
pub record Stays {D F : Type 0} (seen : F → Option (List ℕ)) (k k' : KeptState D) (old new : RotationState F) (d d' : DirectoryState) : Type 0 where
  pub files : new.files ≡ old.files
  pub moment : (base : State) → WritesMoment seen base k old → WritesMoment seen base k' new
  pub names : KeepsOthers (IsTried old.files.last) d d'
  pub no_later : IsUnmade (old.files.last + 1) d d'
  pub spared : IsSpared (Journal (old.files.last + 1)) d d'
  pub named : MayBeNamed seen k old d d'

-- A journal was made behind the last one, for certain, and a snapshot of what the broker holds now is begun, perhaps.
pub record Opens {D F : Type 0} (seen : F → Option (List ℕ)) (k : KeptState D) (old new : RotationState F) (d d' : DirectoryState) : Type 0 where
  pub last : new.files.last ≡ old.files.last + 1
  pub snapshot : new.files.snapshot ≡ old.files.snapshot
  pub current : new.files.is_current ≡ true
  pub moment : WritesMoment seen k.world.state k new
  pub was_absent : IsThere d (Journal (old.files.last + 1)) false
  pub there : Becomes (Journal (old.files.last + 1)) true d d'
  pub names : KeepsOthers (IsNext old.files.last) d d'
  pub certain : AreKept d'

-- The last journal is that one, of its number and without frames. Its head says what stood before it, the journal that was the
-- last one; and its key was drawn.
abbrev pub OpensNext : {D F : Type 0} (is_drawn : List ℕ → Type 0) (seen : D → Option (List ℕ)) (drafted : F → Option (List ℕ)) (k k' : KeptState D)
    (old new : RotationState F) (d d' : DirectoryState) → Type 0
OpensNext is_drawn seen drafted k k' old new d d' =
    Opens drafted k' old new d d' × IsFresh seen k'.journal
    × HasHeadAlone seen (old.files.last + 1) (stood_of old.files.last k.journal) k'.journal × is_drawn k'.journal.key

-- A snapshot of what the broker holds now is begun, perhaps, of the last journal's number: this has no frame and the head of a
-- journal that is made now, no frame is noted for it, and no snapshot has its number.
pub record Begins {D F : Type 0} (seen : D → Option (List ℕ)) (drafted : F → Option (List ℕ)) (k k' : KeptState D) (old new : RotationState F) (d d' : DirectoryState) : Type 0 where
  pub files : new.files ≡ old.files
  pub below : old.files.snapshot < old.files.last
  pub current : old.files.is_current ≡ true
  pub fresh : IsFresh seen k.journal
  pub clear : IsClear k.notes
  pub moment : WritesMoment drafted k'.world.state k' new
  pub names : KeepsOthers (IsName Making) d d'
  pub certain : KeepsCertain (IsName Making) d d'

-- a snapshot is begun, perhaps, of a new journal or of the last one
abbrev pub BeginsOne : {D F : Type 0} (is_drawn : List ℕ → Type 0) (seen : D → Option (List ℕ)) (drafted : F → Option (List ℕ)) (k k' : KeptState D) (old new : RotationState F)
    (d d' : DirectoryState) → Type 0
BeginsOne is_drawn seen drafted k k' old new d d' =
    OpensNext is_drawn seen drafted k k' old new d d' ⊎ (IsSame seen k.journal k'.journal × Begins seen drafted k k' old new d d')

-- The snapshot that was being written is whole, and has its name for certain.
pub record Publishes {D F : Type 0} (seen : F → Option (List ℕ)) (k : KeptState D) (old new : RotationState F) (d d' : DirectoryState) : Type 0 where
  pub last : new.files.last ≡ old.files.last
  pub snapshot : new.files.snapshot ≡ old.files.last
  pub current : new.files.is_current ≡ old.files.is_current
  pub was_written : is_some old.draft ≡ true
  pub draft : new.draft ≡ None
  pub moment : (base : State) → WritesMoment seen base k old → AreOfMoment (d'.bytes old.files.last) (id_of old.files.last k.journal.key) base
  pub there : Becomes (Snapshot old.files.last) true d d'
  pub names : KeepsOthers (IsPublished old.files.last) d d'
  pub certain : AreCertain d'

-- Nothing but files below the highest snapshot is removed.
pub record Drops {F : Type 0} (old new : RotationState F) (d d' : DirectoryState) : Type 0 where
  pub last : new.files.last ≡ old.files.last
  pub snapshot : new.files.snapshot ≡ old.files.snapshot
  pub current : new.files.is_current ≡ old.files.is_current
  pub draft : new.draft ≡ old.draft
  pub names : KeepsOthers (IsBelow old.files.snapshot) d d'
  pub certain : KeepsCertain (IsBelow old.files.snapshot) d d'

-- The same, at a time at which nothing rests that failed to be removed; and what fails to be removed now rests.
pub record Removes {F : Type 0} (clock : ℕ) (missed : Bool) (old new : RotationState F) (d d' : DirectoryState) : Type 0 where
  pub drops : Drops old new d d'
  pub over : IsOver old.rests clock
  pub rests : missed ≡ true → new.rests ≡ Some (later_than clock)

-- What was done where the broker is to end: no name is touched of the files that count, but that the snapshot that was being written may
-- have got its, and is whole then; a journal behind the last one may have been begun, where nobody had made one.
pub record Stops {D F : Type 0} (seen : F → Option (List ℕ)) (k : KeptState D) (old : RotationState F) (d d' : DirectoryState) : Type 0 where
  pub names : KeepsOthers (IsTried old.files.last) d d'
  pub named : MayBeNamed seen k old d d'
  pub spared : IsSpared (Journal (old.files.last + 1)) d d'

-- That, or a file below the highest snapshot wasn't removed, and no other name is touched.
abbrev pub Ends : {D F : Type 0} (seen : F → Option (List ℕ)) (k : KeptState D) (old : RotationState F) (d d' : DirectoryState) → Type 0
Ends seen k old d d' = Stops seen k old d d' ⊎ KeepsOthers (IsBelow old.files.snapshot) d d'

-- One step at what the clock says, of which something failed that the broker goes on without, or not: one of these. And the last journal
-- is a new one, of its number and without frames, just where one was made.
abbrev pub Steps : {D F : Type 0} (is_drawn : List ℕ → Type 0) (seen : D → Option (List ℕ)) (drafted : F → Option (List ℕ)) (clock : ℕ) (missed : Bool) (k k' : KeptState D)
    (old new : RotationState F) (d d' : DirectoryState) → Type 0
Steps is_drawn seen drafted clock missed k k' old new d d' =
    OpensNext is_drawn seen drafted k k' old new d d'
    ⊎ (IsSame seen k.journal k'.journal
    × (Begins seen drafted k k' old new d d' ⊎ (Stays drafted k k' old new d d' ⊎ (Publishes drafted k old new d d' ⊎ Removes clock missed old new d d'))))

-- ---- all steps at once

-- the number of the journal behind the last one; or that of the last one, where no snapshot has it
abbrev pub IsNextNumber : KeptFiles → ℕ → Type 0
IsNextNumber files number = (number ≡ files.last + 1) ⊎ ((number ≡ files.last) × (files.snapshot < files.last))

-- a snapshot was taken of a new journal, behind the last one; or of the last one, of which no snapshot was
abbrev pub IsNextTaken : {F : Type 0} (old new : RotationState F) → Type 0
IsNextTaken old new = IsNextNumber old.files new.files.last

-- The last journal is a new one, with the head of one that is made now behind the one before; or it is the one before, which had such a head.
abbrev pub HasCurrentHead : {D F : Type 0} (seen : D → Option (List ℕ)) (k k' : KeptState D) (old new : RotationState F) → Type 0
HasCurrentHead seen k k' old new =
    (IsSame seen k.journal k'.journal × (old.files.is_current ≡ true) × (new.files.is_current ≡ true))
    ⊎ (HasHeadAlone seen new.files.last (stood_of old.files.last k.journal) k'.journal × (new.files.is_current ≡ true))

-- the names that a fold may touch before its snapshot is whole: the journal behind the last one, a snapshot in the making, and the snapshot that
-- is taken
abbrev pub IsOfFold : KeptFiles → Name → Type 0
IsOfFold files name = IsNext files.last name ⊎ ((number : ℕ) × IsNextNumber files number × (name ≡ Snapshot number))

-- The snapshot of what the broker held was taken, and is there, whole, with the journal of its number, which has this key. Files of lower
-- numbers are removed, perhaps.
pub record HasFolded {D F : Type 0} (k : KeptState D) (old : RotationState F) (d d' : DirectoryState) : Type 0 where
  pub number : ℕ
  pub key : List ℕ
  pub next : IsNextNumber old.files number
  pub there : IsThere d' (Snapshot number) true
  pub journal : IsThere d (Journal old.files.last) true → IsThere d' (Journal number) true
  pub moment : AreOfMoment (d'.bytes number) (id_of number key) k.world.state
  pub names : KeepsOthers (λ name. IsOfFold old.files name ⊎ IsBelow number name) d d'

-- What a fold did, whatever came of it: no other name was touched, so none of a file that counts; or its snapshot is there, whole.
abbrev pub FoldsNames : {D F : Type 0} (k : KeptState D) (old : RotationState F) (d d' : DirectoryState) → Type 0
FoldsNames k old d d' = KeepsOthers (IsOfFold old.files) d d' ⊎ HasFolded k old d d'
