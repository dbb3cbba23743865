-- A broker whose frames go on in another journal. This project's own; Kafka's documentation has its like in "Operations", section
-- "Snapshots" of KRaft.
use Rattle.std.specs.Prelude.{◌≡◌, ◌⊎◌, ℕ, List, [], Option, Some, IfSome}
use Rattle.std.specs.Int.{cast_signed, w64}
use Rattle.broker_state.specs.State.{State}
use Rattle.journal.specs.declared.head.Before.{Before}
use Rattle.journal.specs.Files.{head_bytes}
use Rattle.journal.specs.Journals.{JournalState}
use Rattle.kept_rotations.specs.declared.opening.TheConstants.{MEANING}
use Rattle.kept_sessions.specs.Replaying.{Replays}
use Rattle.kept_sessions.specs.Keeping.{HoldsFrames, IsKept, KeptState}

-- The frames of journals before led from a first state to the one from which those of the last journal lead on.
pub record IsKeptOn {D : Type 0} (seen : D → Option (List ℕ)) (first start : State) (k : KeptState D) : Type 0 where
  pub former : List (List ℕ)
  pub between : State
  pub led : Replays first former between
  pub kept : IsKept seen between start k

-- no frame is in the journal's file
abbrev pub IsFresh : {D : Type 0} → (D → Option (List ℕ)) → JournalState D → Type 0
IsFresh seen journal = IfSome (seen journal.disk) (λ file. HoldsFrames journal.start journal.key file [])

-- what the head of the journal behind one of this number says of it: its number, its key, and how many bytes its file has
abbrev pub stood_of : {D : Type 0} → (number : ℕ) → JournalState D → Before
stood_of number journal = record { number = cast_signed w64 number; key = journal.key; size = journal.end }

-- the file has the head of a new journal of this number, which says what stood before it, and nothing else
abbrev pub HasHeadAlone : {D : Type 0} → (D → Option (List ℕ)) → (number : ℕ) → (before : Before) → JournalState D → Type 0
HasHeadAlone seen number before journal =
    IfSome (seen journal.disk) (λ file. file ≡ head_bytes (record { meaning = MEANING; number = cast_signed w64 number; key = journal.key; before = Some before }))

-- The journal is the one before, of which no byte has changed.
pub record IsSame {D : Type 0} (seen : D → Option (List ℕ)) (old new : JournalState D) : Type 0 where
  pub file : seen new.disk ≡ seen old.disk
  pub key : new.key ≡ old.key
  pub start : new.start ≡ old.start

-- It is that one, or another one without frames.
abbrev pub GoesOn : {D : Type 0} → (D → Option (List ℕ)) → (old new : JournalState D) → Type 0
GoesOn seen old new = IsSame seen old new ⊎ IsFresh seen new

-- The broker, its sessions, what is noted and the journal are as before, and what is kept is kept; what is barred perhaps isn't.
pub record IsSameButBarred {D : Type 0} (seen : D → Option (List ℕ)) (old new : KeptState D) : Type 0 where
  pub world : new.world ≡ old.world
  pub notes : new.notes ≡ old.notes
  pub journal : new.journal ≡ old.journal
  pub kept : (first start : State) → IsKept seen first start old → IsKept seen first start new
