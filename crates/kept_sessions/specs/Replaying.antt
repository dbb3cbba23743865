-- What a broker becomes by frames that are handled again, where memory suffices. Kafka's documentation, "Protocol Guide",
-- section "Network" (requests are handled in their order).
use Rattle.std.specs.Prelude.{◌≡◌, ℕ, ◌<◌, Bool, true, false, List, [], ◌∷◌, length, Option}
use Rattle.request_frames.specs.Requests.{RequestValue, IsRequest, IsRefused}
use Rattle.frame_fields.specs.Frames.{IsFrames, IsFirstFrame, IsIncomplete}
use Rattle.broker_state.specs.State.{State}
use Rattle.sessions.specs.Below.{RefusesNext}
use Rattle.sessions.specs.Below.{IsReply}
use Rattle.broker_node.specs.Effects.{may_change}
use Rattle.kept_sessions.specs.declared.replaying.ReplayError.{ReplayError}
use Rattle.kept_sessions.specs.declared.replaying.ReplayError.TheVariants as replay

-- A frame is a request that may change something, and this is the state after it.
pub record IsHandled (s : State) (frame : List ℕ) (after : State) : Type 0 where
  pub request : RequestValue
  pub reads : IsRequest frame request
  pub changes : may_change request.body ≡ true
  pub response : Option (List ℕ)
  pub replies : IsReply s request response after

-- the frames are handled one after the other
abbrev pub Replays : State → List (List ℕ) → State → Type 0
Replays s [] after = s ≡ after
Replays s (frame ∷ frames) after = (mid : State) × IsHandled s frame mid × Replays mid frames after

-- the bytes are frames, and they were handled one after the other
pub record ReplaysFrames (bytes : List ℕ) (s after : State) (count : ℕ) : Type 0 where
  pub frames : List (List ℕ)
  pub cut : IsFrames bytes frames []
  pub replays : Replays s frames after
  pub counts : length frames ≡ count

-- ---- frames that aren't handled again

-- a frame is a request that may change something, or one that only reads
abbrev pub IsRequestThat : Bool → List ℕ → Type 0
IsRequestThat changes frame = (q : RequestValue) × IsRequest frame q × (may_change q.body ≡ changes)

-- why a frame isn't handled
abbrev pub StopsFrame : List ℕ → ReplayError → Type 0
StopsFrame frame (replay.Frame why) = IsRefused why frame
StopsFrame frame replay.Short = ⊥
StopsFrame frame replay.OnlyReads = IsRequestThat false frame
StopsFrame frame replay.OutOfMemory = IsRequestThat true frame

-- why no frame is handled at the front of some bytes
abbrev pub StopsReplay : ReplayError → List ℕ → Type 0
StopsReplay replay.Short bytes = IsIncomplete bytes
StopsReplay (replay.Frame why) bytes = RefusesNext why bytes
StopsReplay e bytes = (frame rest : List ℕ) × IsFirstFrame frame bytes rest × StopsFrame frame e

-- Some first frames were handled; at the front of what is left the next one isn't.
pub record FailsReplay (bytes : List ℕ) (s : State) (e : ReplayError) : Type 0 where
  pub frames : List (List ℕ)
  pub rest : List ℕ
  pub reached : State
  pub cut : IsFrames bytes frames rest
  pub replays : Replays s frames reached
  pub some : 0 < length rest
  pub stops : StopsReplay e rest
