-- A broker that is recovered from its journal, and goes on with it.
use Rattle.std.specs.Prelude.{◌≡◌, ℕ, Bool, List, length, take, drop, Option, Some, IfSome}
use Rattle.frame_fields.specs.Frames.{stream}
use Rattle.broker_state.specs.State.{State}
use Rattle.sessions.specs.Orders.{new_world}
use Rattle.journal.specs.Files.{Group, StartsWithGroup, HasNoGroup, HasLaterSync, groups_end}
use Rattle.journal.specs.Readers.{HasReadUpTo, HasReadCause, ReadsMayFail}
use Rattle.journal.specs.declared.settle.Unsettled.{Unsettled}
use Rattle.kept_sessions.specs.declared.replaying.ReplayError.{ReplayError}
use Rattle.kept_sessions.specs.declared.recovering.RecoverError.{RecoverError}
use Rattle.kept_sessions.specs.declared.recovering.RecoverError.TheVariants as recover
use Rattle.kept_sessions.specs.declared.recovering.ResumeError.{ResumeError}
use Rattle.kept_sessions.specs.declared.recovering.ResumeError.TheVariants as resume
use Rattle.kept_sessions.specs.Replaying.{Replays, FailsReplay}
use Rattle.kept_sessions.specs.Keeping.{KeptState, AreWithinLimit, Recovers, frames_in, no_notes}

-- ---- what is recovered

-- The groups of a file from one offset to another hold these frames, and nothing else.
pub record ReadsFrames (key : List ℕ) (from to : ℕ) (file : List ℕ) (frames : List (List ℕ)) : Type 0 where
  pub read : HasReadUpTo key from to file
  pub frames_are : frames_in read.groups ≡ stream frames

-- The frames of a file's groups from one offset to another were handled again: they lead from one state to another.
pub record HasRecovered (seen : Option (List ℕ)) (key : List ℕ) (from to : ℕ) (s after : State) (count : ℕ) : Type 0 where
  pub frames : List (List ℕ)
  pub within : AreWithinLimit frames
  pub replays : Replays s frames after
  pub counts : length frames ≡ count
  pub file : IfSome seen (λ file. ReadsFrames key from to file frames)

-- What a file's groups lead to is recovered, and they end at this offset.
pub record RecoversUpTo (first : State) (start : ℕ) (key file : List ℕ) (to : ℕ) (recovered : State) : Type 0 where
  pub recovers : Recovers first start key file recovered
  pub end : to ≡ groups_end key start recovers.groups

-- A keeper begins with a file of which this state was recovered: no client has come, no frame is noted, and the file was
-- cut behind its groups.
pub record StartsAgain {D : Type 0} (seen : D → Option (List ℕ)) (first : State) (start : ℕ) (key file : List ℕ) (recovered : State) (k : KeptState D) : Type 0 where
  pub recovers : Recovers first start key file recovered
  pub world : k.world ≡ new_world recovered
  pub notes : k.notes ≡ no_notes
  pub key_is : k.journal.key ≡ key
  pub start_is : k.journal.start ≡ start
  pub cut : seen k.journal.disk ≡ Some (take (groups_end key start recovers.groups) file)

-- ---- why none is

-- a group stands at this offset, with a frame that isn't handled in this state
pub record FailsGroup (seen : Option (List ℕ)) (key : List ℕ) (at : ℕ) (s : State) (why : ReplayError) : Type 0 where
  pub group : Group
  pub stands : IfSome seen (λ file. (more : List ℕ) × StartsWithGroup key at group (drop at file) more)
  pub fails : FailsReplay group.frames s why

-- The frames of all groups before one were handled again, and that has a frame that isn't.
pub record FailsBehind (seen : Option (List ℕ)) (key : List ℕ) (from at : ℕ) (s : State) (why : ReplayError) : Type 0 where
  pub reached : State
  pub count : ℕ
  pub before : HasRecovered seen key from at s reached count
  pub group : FailsGroup seen key at reached why

-- The frames of all groups were handled again, and a later group says that more was on the disk.
pub record IsDamaged (seen : Option (List ℕ)) (key : List ℕ) (from to : ℕ) (s : State) : Type 0 where
  pub reached : State
  pub count : ℕ
  pub before : HasRecovered seen key from to s reached count
  pub ended : IfSome seen (λ file. HasNoGroup key to (drop to file))
  pub later : IfSome seen (λ file. HasLaterSync key to (drop to file))

-- Why a broker isn't recovered: there is no memory to read, or a read failed, which it may; or one of the above.
abbrev pub StopsRecovery : (seen : Option (List ℕ)) (may_fail : Bool) (key : List ℕ) (from to : ℕ) (s : State) → RecoverError → Type 0
StopsRecovery seen may_fail key from to s (recover.Read why) = HasReadCause (ReadsMayFail seen may_fail) why
StopsRecovery seen may_fail key from to s (recover.Frame at why) = FailsBehind seen key from at s why
StopsRecovery seen may_fail key from to s recover.LaterSync = IsDamaged seen key from to s

-- why a broker doesn't go on with its journal: there is no memory, or of the disk, which is given back, this is so
abbrev pub StopsResume : {D : Type 0} (stops : Unsettled D → Type 0) → ResumeError D → Type 0
StopsResume stops resume.OutOfMemory = Unit {0}
StopsResume stops (resume.OnDisk e) = stops e
