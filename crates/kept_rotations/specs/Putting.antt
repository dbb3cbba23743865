-- A group that is put into the journal beside a snapshot that is being written. This project's own.
use Rattle.std.specs.Prelude.{◌≡◌, ◌⊎◌, ℕ, ◌+◌, ◌^◌, ◌<◌, ◌≤◌, Bool, true, false, List, ◌++◌, length, Option, Some, IfSome}
use Rattle.broker_state.specs.State.{State}
use Rattle.data_directory.specs.declared.names.Name.{Name}
use Rattle.data_directory.specs.declared.names.Name.TheVariants.{Making}
use Rattle.journal.specs.declared.layout.TheConstants.{FRAMES_AT, MOST_GROUP}
use Rattle.journal.specs.declared.error.JournalError.TheVariants.{Failed, Empty, TooLarge, Full, OnDisk}
use Rattle.journal.specs.Files.{group_with, group_bytes}
use Rattle.journal.specs.Journals.{JournalState}
use Rattle.kept_sessions.specs.declared.keeper.CommitError.{CommitError}
use Rattle.kept_sessions.specs.declared.keeper.CommitError.TheVariants.{OutOfMemory, Journal as InJournal}
use Rattle.kept_sessions.specs.Keeping.{IsKept, KeptState}
use Rattle.kept_rotations.specs.Steps.{IsBelow}

-- a snapshot in the making, or a file below the highest snapshot
abbrev pub IsRoom : (snapshot : ℕ) → Name → Type 0
IsRoom snapshot name = (name ≡ Making) ⊎ IsBelow snapshot name

-- The journal's file has grown by a group of these frames, which says of some bytes that they are synced, and by nothing else.
abbrev pub GrowsByGroup : {D : Type 0} (seen : D → Option (List ℕ)) (frames : List ℕ) (old new : JournalState D) → Type 0
GrowsByGroup seen frames old new =
    IfSome (seen old.disk) (λ file. (synced : ℕ) × (seen new.disk ≡ Some (file ++ group_bytes old.key old.end (group_with synced frames))))

-- What a failed append left behind the journal's file is cut off: all is as it was before, but what is barred and what is synced.
pub record IsMended {D : Type 0} (seen : D → Option (List ℕ)) (old new : KeptState D) : Type 0 where
  pub notes : new.notes ≡ old.notes
  pub key : new.journal.key ≡ old.journal.key
  pub start : new.journal.start ≡ old.journal.start
  pub end : new.journal.end ≡ old.journal.end
  pub file : seen new.journal.disk ≡ seen old.journal.disk
  pub works : new.journal.has_failed ≡ false
  pub kept : (first start : State) → IsKept seen first start old → IsKept seen first start new

-- Why a group isn't in the journal, though room was made for it: an entry lacked memory; the journal had failed before, or takes no such group; or
-- the disk has failed now, or the directory.
abbrev pub StopsPut : {D : Type 0} (has_failed : D → Bool) (unsure : Bool) (old new : KeptState D) → CommitError → Type 0
StopsPut has_failed unsure old new OutOfMemory = old.notes.has_lacked ≡ true
StopsPut has_failed unsure old new (InJournal Failed) = old.journal.has_failed ≡ true
StopsPut has_failed unsure old new (InJournal Empty) = length old.notes.frames ≡ 0
StopsPut has_failed unsure old new (InJournal TooLarge) = MOST_GROUP < length old.notes.frames
StopsPut has_failed unsure old new (InJournal Full) = 2 ^ 64 ≤ old.journal.end + (FRAMES_AT + length old.notes.frames)
StopsPut has_failed unsure old new (InJournal (OnDisk e)) = (has_failed new.journal.disk ≡ true) ⊎ (unsure ≡ true)
