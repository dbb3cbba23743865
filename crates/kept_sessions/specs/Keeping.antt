-- A broker with the sessions of its clients and a journal: what it has done, what of it the journal has, and what left.
use Rattle.std.specs.Prelude.{◌≡◌, ◌⊎◌, ℕ, ◌+◌, pos, drop, Bool, true, false, List, [], ◌∷◌, ◌++◌, length, map, Option, Some, None, Result, Ok, Err, IfSome}
use Rattle.std.specs.List.{flat_map, AllByRecursion}
use Rattle.frame_fields.specs.Frames.{IsWithinLimit, stream}
use Rattle.broker_state.specs.declared.place.Place.{Place}
use Rattle.broker_state.specs.State.{State}
use Rattle.sessions.specs.Turns.{Exchange, InTurn, replied}
use Rattle.sessions.specs.declared.visiting.Seat.{Seat}
use Rattle.sessions.specs.declared.visiting.Flushed.{Flushed}
use Rattle.sessions.specs.declared.visiting.Why.{Why}
use Rattle.kept_sessions.specs.declared.keeper.Sent.{Sent}
use Rattle.kept_sessions.specs.declared.keeper.Sent.TheVariants.{Bytes, HeldBack, Failed}
use Rattle.kept_sessions.specs.declared.keeper.CommitError.{CommitError}
use Rattle.kept_sessions.specs.declared.keeper.CommitError.TheVariants.{OutOfMemory, Journal as InJournal}
use Rattle.std.specs.Io.KnownBytes.{append_known}
use Rattle.journal.specs.declared.error.JournalError.TheVariants.{OnDisk}
use Rattle.journal.specs.Disks.{LeavesAll, Tears}
use Rattle.sessions.specs.Orders.{Event, SendsAt, SessionsState, World, Run, new_world, sent_to, one_list, own}
use Rattle.journal.specs.Files.{Group, IsGroup, AreGroups, IsRead, groups_bytes}
use Rattle.journal.specs.Crashes.{HasStranger}
use Rattle.journal.specs.Journals.{JournalState, StopsAppend, next_bytes, next_group}
use Rattle.kept_sessions.specs.Replaying.{Replays, ReplaysFrames}
use Rattle.kept_sessions.specs.Noting.{NotesValue, HasNotes, Notes}

-- The broker and its sessions, the frames that are noted and not in the journal, the journal, the places of the partitions that
-- may not change yet, and the sessions whose first frame waits, each with whether it was named.
pub record KeptState (D : Type 0) : Type 0 where
  pub world : World
  pub notes : NotesValue
  pub journal : JournalState D
  pub barred : List Place
  pub waits : List (ℕ × Bool)

-- the sessions alone
abbrev pub sessions_of : {D : Type 0} → KeptState D → SessionsState
sessions_of k = record { world = k.world; waits = k.waits }

abbrev pub no_notes : NotesValue
no_notes = record { frames = []; has_lacked = false }

-- ---- the file

-- the frames that groups hold, behind their sizes
abbrev pub frames_in : List Group → List ℕ
frames_in groups = flat_map (λ g. g.frames) groups

-- A file has a head of so many bytes and groups, whose frames are these, and nothing else.
pub record HoldsFrames (start : ℕ) (key : List ℕ) (file : List ℕ) (frames : List (List ℕ)) : Type 0 where
  pub head : List ℕ
  pub groups : List Group
  pub size : length head ≡ start
  pub parts : file ≡ head ++ groups_bytes key start groups
  pub valid : AreGroups key start groups
  pub frames_are : frames_in groups ≡ stream frames

-- each of the frames may be one
abbrev pub AreWithinLimit : List (List ℕ) → Type 0
AreWithinLimit frames = AllByRecursion (λ frame. IsWithinLimit (pos (length frame))) frames

-- ---- what is kept

-- The journal's frames lead from the state that its first frame found to that at a moment before which all has left that
-- was sent; the frames that are noted since lead from there to the state now. `start` is the state in which no client had
-- come, and `seen` gives what the file has, where that is known.
pub record IsKept {D : Type 0} (seen : D → Option (List ℕ)) (first start : State) (k : KeptState D) : Type 0 where
  pub before : List Event
  pub mid : World
  pub since : List Event
  pub until : Run (new_world start) before mid
  pub later : Run mid since k.world
  pub silent : (client : ℕ) → sent_to client since ≡ []
  pub frames : List (List ℕ)
  pub within : AreWithinLimit frames
  pub replays : Replays first frames mid.state
  pub holds : IfSome (seen k.journal.disk) (λ file. HoldsFrames k.journal.start k.journal.key file frames)
  pub noted : Notes no_notes mid.state k.notes k.world.state

-- ---- what is put into the journal

-- the journal's file has grown by the group of these frames, and a crash leaves all of it
pub record Commits {D : Type 0} (seen : D → Option (List ℕ)) (may_leave : D → List ℕ → Type 0) (frames : List ℕ) (old new : JournalState D) : Type 0 where
  pub appends : seen new.disk ≡ append_known (seen old.disk) (next_bytes old frames)
  pub durable : LeavesAll (seen new.disk) (may_leave new.disk)
  pub key : new.key ≡ old.key
  pub start : new.start ≡ old.start

-- the journal's file has grown by the group of these frames, and no more of it is synced than before
pub record Appends {D : Type 0} (seen : D → Option (List ℕ)) (frames : List ℕ) (old new : JournalState D) : Type 0 where
  pub grows : seen new.disk ≡ append_known (seen old.disk) (next_bytes old frames)
  pub end : new.end ≡ old.end + length (next_bytes old frames)
  pub synced : new.synced ≡ old.synced
  pub key : new.key ≡ old.key
  pub start : new.start ≡ old.start

-- the journal's file stays, and a crash leaves all of it
pub record Syncs {D : Type 0} (seen : D → Option (List ℕ)) (may_leave : D → List ℕ → Type 0) (old new : JournalState D) : Type 0 where
  pub file : seen new.disk ≡ seen old.disk
  pub durable : LeavesAll (seen new.disk) (may_leave new.disk)
  pub key : new.key ≡ old.key
  pub start : new.start ≡ old.start
  pub end : new.end ≡ old.end
  pub synced : new.synced ≡ new.end

-- why frames aren't put into the journal: one was done in part, and nothing has changed; or the journal's reason
abbrev pub StopsCommit : {D : Type 0} (has_failed : D → Bool) (old new : KeptState D) → CommitError → Type 0
StopsCommit has_failed old new OutOfMemory = (old.notes.has_lacked ≡ true) × (new ≡ old)
StopsCommit has_failed old new (InJournal why) =
    (old.notes.has_lacked ≡ false) × (new.notes ≡ old.notes) × StopsAppend has_failed old.journal new.journal old.notes.frames why

-- An append failed, and nothing else: bytes stand perhaps behind what the journal's file had, the frames are noted still, and
-- all else is as it was.
pub record IsTornBy {D : Type 0} (seen : D → Option (List ℕ)) (old new : KeptState D) : Type 0 where
  pub world : new.world ≡ old.world
  pub notes : new.notes ≡ old.notes
  pub torn : new.journal.is_torn ≡ true
  pub key : new.journal.key ≡ old.journal.key
  pub start : new.journal.start ≡ old.journal.start
  pub end : new.journal.end ≡ old.journal.end
  pub size : IfSome (seen old.journal.disk) (λ file. length file ≡ old.journal.end)
  pub tears : Tears (seen old.journal.disk) (seen new.journal.disk)

-- that, where the disk failed and the journal says so
abbrev pub TearsBy : {D : Type 0} (seen : D → Option (List ℕ)) (old new : KeptState D) → CommitError → Type 0
TearsBy seen old new OutOfMemory = Unit {0}
TearsBy seen old new (InJournal (OnDisk e)) = new.journal.is_torn ≡ true → IsTornBy seen old new
TearsBy seen old new (InJournal why) = Unit {0}

-- ---- what is sent

-- what came of it, by what the sessions say
abbrev pub sent_of : Option (Result Flushed Why) → Option Sent
sent_of None = None
sent_of (Some (Ok flushed)) = Some (Bytes flushed)
sent_of (Some (Err why)) = Some (Failed why)

-- A front of what was owed left, or a write failed. While frames are noted nothing leaves, and nothing changes.
abbrev pub Sends : (who : ℕ) (seat : Seat) (notes : NotesValue) (old : World) (seat' : Seat) (new : World) (taken taken' : Option (List ℕ)) → Sent → Type 0
Sends who seat notes old seat' new taken taken' (Bytes flushed) = SendsAt who seat old seat' new taken taken' (Ok flushed)
Sends who seat notes old seat' new taken taken' (Failed why) = SendsAt who seat old seat' new taken taken' (Err why)
Sends who seat notes old seat' new taken taken' HeldBack = HasNotes notes × (new ≡ old) × (seat' ≡ seat) × (taken' ≡ taken)

-- ---- where the journal leads

-- the frames in the journal's file lead from the first state to that of the broker
pub record LeadsHere {D : Type 0} (seen : D → Option (List ℕ)) (first : State) (k : KeptState D) : Type 0 where
  pub frames : List (List ℕ)
  pub within : AreWithinLimit frames
  pub replays : Replays first frames k.world.state
  pub holds : IfSome (seen k.journal.disk) (λ file. HoldsFrames k.journal.start k.journal.key file frames)

-- ---- what left

-- There is a front of the frames that were handled, of all sessions in one order, such that each client was sent a front
-- of the replies to its own frames of it, and the frames in the journal's file lead to the state after it.
pub record LeavesNothingUnkept {D : Type 0} (seen : D → Option (List ℕ)) (first start : State) (k : KeptState D) : Type 0 where
  pub events : List Event
  pub run : Run (new_world start) events k.world
  pub front : List (ℕ × Exchange)
  pub behind : List (ℕ × Exchange)
  pub handled : one_list events ≡ front ++ behind
  pub state : State
  pub in_turn : InTurn start (map (λ x. x.1) front) state
  pub sent : (client : ℕ) → (owed : List ℕ) × (replied (own client front) ≡ sent_to client events ++ owed)
  pub frames : List (List ℕ)
  pub replays : Replays first frames state
  pub holds : IfSome (seen k.journal.disk) (λ file. HoldsFrames k.journal.start k.journal.key file frames)

-- ---- what a start finds

-- What is read of a file's groups behind so many bytes, and the state that their frames lead to.
pub record Recovers (first : State) (start : ℕ) (key file : List ℕ) (recovered : State) : Type 0 where
  pub groups : List Group
  pub rest : List ℕ
  pub count : ℕ
  pub read : IsRead key start (drop start file) groups rest
  pub replays : ReplaysFrames (frames_in groups) first recovered count

-- a group is read that nobody wrote, where these should stand
abbrev pub ReadsStranger : List Group → List Group → Type 0
ReadsStranger groups missed = (written more : List Group) × (groups ≡ written ++ more) × HasStranger more missed

-- Whatever a crash leaves of the file at any moment while the frames that are noted are put into it: a start comes to the
-- state behind a front of the frames handled, of which all is that any client was sent, or to the state behind all of them.
-- Or it reads a group that nobody wrote.
pub record LosesNothing {D : Type 0} (seen : D → Option (List ℕ)) (first start : State) (k : KeptState D) (recovered : State) (groups : List Group) : Type 0 where
  pub left : LeavesNothingUnkept seen first start k
  pub state : (recovered ≡ left.state) ⊎ ((recovered ≡ k.world.state) ⊎ ReadsStranger groups (next_group k.journal k.notes.frames ∷ []))

-- the journal's file is this, and all of it is on the disk
pub record IsSettled {D : Type 0} (seen : D → Option (List ℕ)) (j : JournalState D) (file : List ℕ) : Type 0 where
  pub file_is : seen j.disk ≡ Some file
  pub size : length file ≡ j.end
  pub synced : j.synced ≡ j.end

-- ---- what a kill of the process leaves

-- the journal's file is this
pub record IsWritten {D : Type 0} (seen : D → Option (List ℕ)) (j : JournalState D) (file : List ℕ) : Type 0 where
  pub file_is : seen j.disk ≡ Some file
  pub size : length file ≡ j.end

-- An append is under way: some first bytes of the group that the noted frames make stand behind the file.
pub record IsInAppend {D : Type 0} (k : KeptState D) (file left : List ℕ) : Type 0 where
  pub suffices : k.notes.has_lacked ≡ false
  pub valid : IsGroup k.journal.end (next_group k.journal k.notes.frames)
  pub front : List ℕ
  pub missing : List ℕ
  pub parts : next_bytes k.journal k.notes.frames ≡ front ++ missing
  pub left_is : left ≡ file ++ front

-- a kill leaves what was written, also in the middle of an append
abbrev pub LeavesWritten : {D : Type 0} → KeptState D → (file left : List ℕ) → Type 0
LeavesWritten k file left = (left ≡ file) ⊎ IsInAppend k file left

-- A start comes to the state behind a front of the frames handled, of which all is that any client was sent, or to the
-- state behind all of them.
pub record LosesNoneWritten {D : Type 0} (seen : D → Option (List ℕ)) (first start : State) (k : KeptState D) (recovered : State) : Type 0 where
  pub left : LeavesNothingUnkept seen first start k
  pub state : (recovered ≡ left.state) ⊎ (recovered ≡ k.world.state)
