-- What a session does: how it ends at the end of its input, and how it stops before. Kafka's documentation, "Protocol
-- Guide", section "Network". That a broker stops at the first frame that it refuses is this project's own.
use Rattle.std.specs.Prelude.{◌≡◌, ◌⊎◌, ℕ, ◌<◌, true, false, List, [], ◌∷◌, ◌++◌, length}
use Rattle.std.specs.Io.KnownBytes.{Consumes, Appends, IsAtEnd}
use Rattle.streams.specs.State.{SourceState, SinkState, IsReadOut}
use Rattle.frame_fields.specs.Frames.{IsFrames, IsFirstFrame, IsIncomplete}
use Rattle.broker_core.specs.declared.session.Ended.{Ended}
use Rattle.broker_core.specs.declared.session.SessionError.{SessionError}
use Rattle.broker_core.specs.declared.session.SessionError.TheVariants.{Frame, Read, Write, OutOfMemory}
use Rattle.broker_state.specs.State.{State}
use Rattle.sessions.specs.Below.{IsAnswered, AreAnswered, Answered, RefusesNext}

-- the bytes that left the source, and those that the sink took
pub record Moves (source source' : SourceState) (sink sink' : SinkState) (input output : List ℕ) : Type 0 where
  pub leaves : Consumes source.left source'.left input
  pub takes : Appends sink.taken sink'.taken output

-- What was read is these frames and a rest, and what was written answers them; the state is the one after.
pub record Session (s : State) (source source' : SourceState) (sink sink' : SinkState) (after : State) : Type 0 where
  pub input : List ℕ
  pub output : List ℕ
  pub frames : List (List ℕ)
  pub rest : List ℕ
  pub moves : Moves source source' sink sink' input output
  pub answers : Answered s input output after frames rest

-- The input came to its end without a failed read, and no complete frame is left.
pub record EndsAs (s : State) (source source' : SourceState) (sink sink' : SinkState) (after : State) (ended : Ended) : Type 0 where
  pub session : Session s source source' sink sink' after
  pub at_end : IsAtEnd source'.left
  pub has_not_failed : source'.failed ≡ false
  pub incomplete : IsIncomplete session.rest
  pub frames : ended.frames ≡ length session.frames
  pub rest : ended.rest ≡ length session.rest

-- what is left is an incomplete frame, or begins with a whole one: its size, if it is there, is none that is refused
abbrev pub HasNoBadSize : (rest : List ℕ) → Type 0
HasNoBadSize rest = IsIncomplete rest ⊎ (frame more : List ℕ) × IsFirstFrame frame rest more

-- The reply to one more frame was cut: the sink took the front of it, and the rest is lost, at least one byte.
pub record CutReply (s : State) (source source' : SourceState) (sink sink' : SinkState) (after : State) : Type 0 where
  pub input : List ℕ
  pub output : List ℕ
  pub frames : List (List ℕ)
  pub frame : List ℕ
  pub rest : List ℕ
  pub before : State
  pub front : List ℕ
  pub lost : List ℕ
  pub moves : Moves source source' sink sink' input (output ++ front)
  pub cut : IsFrames input (frames ++ frame ∷ []) rest
  pub answers : AreAnswered s frames output before
  pub answers_last : IsAnswered before frame (front ++ lost) after
  pub loses : 0 < length lost

-- how a session stops before the end of its input
abbrev pub StopsAs : State → (source source' : SourceState) (sink sink' : SinkState) → State → SessionError → Type 0
StopsAs s source source' sink sink' after (Frame index why) =
    (session : Session s source source' sink sink' after) × (index ≡ length session.frames) × RefusesNext why session.rest
StopsAs s source source' sink sink' after Read =
    (session : Session s source source' sink sink' after) × IsIncomplete session.rest × IsReadOut source source'
StopsAs s source source' sink sink' after Write = CutReply s source source' sink sink' after × (sink'.failed ≡ true)
StopsAs s source source' sink sink' after OutOfMemory =
    (session : Session s source source' sink sink' after) × (source'.failed ≡ false) × HasNoBadSize session.rest
