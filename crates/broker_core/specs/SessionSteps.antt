-- A session step by step: what one read did, and what became of the frames that are held. Words of private clauses.
use Rattle.std.specs.Prelude.{◌≡◌, ℕ, ◌+◌, ◌<◌, ◌^◌, true, false, List, length}
use Rattle.std.specs.Io.KnownBytes.{Consumes, Keeps, Appends}
use Rattle.streams.specs.State.{SourceState, SinkState, LosesRest}
use Rattle.frame_fields.specs.Frames.{IsIncomplete, IsFirstFrame}
use Rattle.broker_core.specs.declared.session.SessionError.{SessionError}
use Rattle.broker_core.specs.declared.session.SessionError.TheVariants.{Frame, Read, Write, OutOfMemory}
use Rattle.broker_state.specs.State.{State}
use Rattle.sessions.specs.Below.{IsAnswered, Answered, RefusesNext}
use Rattle.broker_core.specs.Sessions.{HasNoBadSize}

-- ---- reads

-- why no read was made, or the one that was made gave nothing
abbrev pub StopsReading : (source source' : SourceState) → SessionError → Type 0
StopsReading source source' Read = Keeps source.left source'.left × (source'.failed ≡ true)
StopsReading source source' OutOfMemory = (source' ≡ source) × (source'.failed ≡ false)
StopsReading source source' _ = ⊥

-- ---- frames that are held

-- Frames at the front of what was held are answered, and the rest is left. So many were answered before, and then.
pub record AnswersFront (s after : State) (sink sink' : SinkState) (held rest : List ℕ) (count count' : ℕ) : Type 0 where
  pub frames : List (List ℕ)
  pub output : List ℕ
  pub takes : Appends sink.taken sink'.taken output
  pub answers : Answered s held output after frames rest
  pub counts : count' ≡ count + length frames
  pub no_write_failed : sink'.failed ≡ sink.failed

-- The first frame that is held is handled, and the sink took only the front of its reply.
pub record CutsFirst (s after : State) (sink sink' : SinkState) (held : List ℕ) : Type 0 where
  pub frame : List ℕ
  pub more : List ℕ
  pub reply : List ℕ
  pub first : IsFirstFrame frame held more
  pub answers : IsAnswered s frame reply after
  pub loses : LosesRest sink.taken sink'.taken reply

-- how a session stops at the first frame that is held, which has the number `count`
abbrev pub StopsNext : (s after : State) (sink sink' : SinkState) (held : List ℕ) (count : ℕ) → SessionError → Type 0
StopsNext s after sink sink' held count (Frame index why) = (after ≡ s) × (sink' ≡ sink) × (index ≡ count) × RefusesNext why held
StopsNext s after sink sink' held count Read = ⊥
StopsNext s after sink sink' held count Write = CutsFirst s after sink sink' held × (sink'.failed ≡ true)
StopsNext s after sink sink' held count OutOfMemory = (after ≡ s) × (sink' ≡ sink) × HasNoBadSize held

-- some of the frames that are held are answered, and then the session stops
pub record StopsWithin (s after : State) (sink sink' : SinkState) (held : List ℕ) (count : ℕ) (e : SessionError) : Type 0 where
  pub before : State
  pub sink_before : SinkState
  pub rest : List ℕ
  pub index : ℕ
  pub front : AnswersFront s before sink sink_before held rest count index
  pub stops : StopsNext before after sink_before sink' rest index e

-- ---- the whole session

-- What was read so far, in so many reads, is answered but for an incomplete frame, which is held. It is fewer than 2^63
-- frames.
pub record Serves (s after : State) (source source' : SourceState) (sink sink' : SinkState) (held : List ℕ) (count reads : ℕ) : Type 0 where
  pub input : List ℕ
  pub leaves : Consumes source.left source'.left input
  pub front : AnswersFront s after sink sink' input held 0 count
  pub incomplete : IsIncomplete held
  pub few : count < 2 ^ 63
  pub counts : source'.reads ≡ source.reads + reads
