-- A snapshot of one moment, which is written while clients go on. This project's own; Kafka's documentation has its like in
-- "Operations", section "Snapshots" of KRaft.
use Rattle.std.specs.Prelude.{◌≡◌, ◌⊎◌, ℕ, true, List, [], Option, None, IfSome}
use Rattle.std.specs.Int.{cast_signed, from_be_bytes, w64}
use Rattle.broker_state.specs.declared.place.Place.{Place}
use Rattle.broker_state.specs.State.{State}
use Rattle.snapshots.specs.declared.writing.SnapshotId.{SnapshotId}
use Rattle.state_snapshots.specs.Snapshots.{snapshot_bytes}
use Rattle.snapshot_drafts.specs.Parts.{DraftState, is_missing}
use Rattle.snapshot_drafts.specs.Drafts.{IsDraftOf, content_in}
use Rattle.kept_sessions.specs.Barring.{is_barred}
use Rattle.kept_sessions.specs.Keeping.{KeptState}
use Rattle.kept_rotations.specs.declared.files.KeptFiles.{KeptFiles}

-- The numbers and sizes of a directory's files; the snapshot that is being written, if one is; and, behind a file that couldn't be
-- removed, what the clock says once removals are tried again.
pub record RotationState (F : Type 0) : Type 0 where
  pub files : KeptFiles
  pub draft : Option (DraftState F)
  pub rests : Option ℕ

-- which snapshot it is: that of a number, beside the journal with this key
unfoldable pub id_of : (number : ℕ) (key : List ℕ) → SnapshotId
id_of number key = record { number = cast_signed w64 number; key = cast_signed w64 (from_be_bytes w64 key) }

-- The draft is of this snapshot of what the broker held at a moment (`base`): each image that isn't missing is of that
-- moment, and of what is missing the broker holds the same still.
pub record HoldsMoment {F : Type 0} (seen : F → Option (List ℕ)) (id : SnapshotId) (base now : State) (d : DraftState F) : Type 0 where
  pub draft : IsDraftOf seen id base d
  pub unchanged : (place : Place) → is_missing d place ≡ true → content_in now place ≡ content_in base place

-- It is of the snapshot of this number, beside the last journal, and no partition whose image is missing may change.
pub record IsOfMoment {D F : Type 0} (seen : F → Option (List ℕ)) (number : ℕ) (base : State) (k : KeptState D) (d : DraftState F) : Type 0 where
  pub holds : HoldsMoment seen (id_of number k.journal.key) base k.world.state d
  pub guarded : (place : Place) → is_missing d place ≡ true → is_barred k.barred place ≡ true

-- Where no snapshot is being written nothing is barred; or none was before, and what is barred is what was.
abbrev pub OpensTheBarrier : {D F : Type 0} (k k' : KeptState D) (old new : RotationState F) → Type 0
OpensTheBarrier k k' old new = new.draft ≡ None → (k'.barred ≡ []) ⊎ ((old.draft ≡ None) × (k'.barred ≡ k.barred))

-- the snapshot that is being written, if one is, is of this moment, and has the last journal's number and key
abbrev pub WritesMoment : {D F : Type 0} (seen : F → Option (List ℕ)) (base : State) (k : KeptState D) → RotationState F → Type 0
WritesMoment seen base k r = IfSome r.draft (IsOfMoment seen r.files.last base k)

-- known bytes are those of this snapshot of a moment
abbrev pub AreOfMoment : (bytes : Option (List ℕ)) (id : SnapshotId) (base : State) → Type 0
AreOfMoment bytes id base = IfSome bytes (λ known. known ≡ snapshot_bytes id base)
