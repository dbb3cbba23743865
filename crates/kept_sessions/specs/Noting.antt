-- The frames that are noted of a broker: those that may have changed it, in the order in which they were handled.
use Rattle.std.specs.Prelude.{◌≡◌, ◌⊎◌, ℕ, ◌<◌, Bool, true, false, pos, List, [], ◌∷◌, ◌++◌, length, Option}
use Rattle.std.specs.List.{AllByRecursion}
use Rattle.frame_fields.specs.Frames.{IsWithinLimit, framed, stream}
use Rattle.request_frames.specs.Requests.{RequestValue, IsRequest}
use Rattle.answering.specs.declared.memory.Memory.{Memory}
use Rattle.answering.specs.declared.memory.Memory.TheVariants.{Sufficed, Lacked, LackedInPart}
use Rattle.broker_state.specs.declared.place.Place.{Place}
use Rattle.broker_state.specs.State.{State}
use Rattle.broker_node.specs.Effects.{may_change}
use Rattle.broker_node.specs.Exactly.{LacksMemoryInPart}
use Rattle.kept_sessions.specs.Replaying.{Replays}
use Rattle.kept_sessions.specs.Barring.{KeepsBarred}

-- The frames behind their sizes, one after the other, and whether one of them was done in part, for want of memory.
pub record NotesValue : Type 0 where
  pub frames : List ℕ
  pub has_lacked : Bool

-- They, and the places of the partitions that may not change yet.
pub record NotesState : Type 0 where
  pub notes : NotesValue
  pub barred : List Place

-- nothing is noted, and memory sufficed
abbrev pub IsClear : NotesValue → Type 0
IsClear n = (n.frames ≡ []) × (n.has_lacked ≡ false)

-- a frame is noted, or one was done in part
abbrev pub HasNotes : NotesValue → Type 0
HasNotes n = (0 < length n.frames) ⊎ (n.has_lacked ≡ true)

-- ---- one frame

-- It is noted behind the others, unless for want of memory nothing was done.
abbrev pub noted_behind : List ℕ → List ℕ → Memory → List ℕ
noted_behind frames frame Sufficed = frames ++ framed frame
noted_behind frames frame Lacked = frames
noted_behind frames frame LackedInPart = frames ++ framed frame

-- it says a request that may change something, of which for one entry memory may suffice, and for another it lacks
abbrev pub IsDoneInPart : List ℕ → Type 0
IsDoneInPart frame = (q : RequestValue) × IsRequest frame q × (may_change q.body ≡ true) × (s after : State) × (out : Option (List ℕ)) × LacksMemoryInPart s q out after

-- ---- frames

-- one of some frames does
abbrev pub AnyInPart : List (List ℕ) → Type 0
AnyInPart [] = ⊥
AnyInPart (frame ∷ frames) = IsDoneInPart frame ⊎ AnyInPart frames

-- Some frames were handled, and those that may have changed the broker were noted behind the others. Where none was done in
-- part, these lead from the state before to the one after. One that for want of memory did nothing is not among them, and
-- isn't told of.
pub record Notes (old : NotesValue) (s : State) (new : NotesValue) (after : State) : Type 0 where
  pub noted : List (List ℕ)
  pub frames : new.frames ≡ old.frames ++ stream noted
  pub within : AllByRecursion (λ frame. IsWithinLimit (pos (length frame))) noted
  pub exact : new.has_lacked ≡ false → (old.has_lacked ≡ false) × Replays s noted after
  pub in_part : new.has_lacked ≡ true → (old.has_lacked ≡ true) ⊎ AnyInPart noted

-- Some frames were handled and noted so, and each partition that is barred is as it was.
pub record HandlesFrames (old : NotesState) (s : State) (new : NotesState) (after : State) : Type 0 where
  pub notes : Notes old.notes s new.notes after
  pub barred : new.barred ≡ old.barred
  pub keeps : KeepsBarred old.barred s after
