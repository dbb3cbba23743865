-- What a session does, from the bytes that come in to the bytes that go out.
use Rattle.std.specs.Prelude.{◌≡◌, ◌⊎◌, ℕ, ◌<◌, true, false, List, [], length, Option}
use Rattle.std.specs.Io.KnownBytes.{Consumes, Appends, IsAtEnd}
use Rattle.frame_fields.specs.declared.error.FrameError.{FrameError}
use Rattle.frame_fields.specs.Frames.{IsIncomplete}
use Rattle.streams.specs.State.{SourceState, SinkState}
use Rattle.broker_state.specs.State.{State}
use Rattle.broker_core.specs.Below.{Answered, RefusesNext}
use Rattle.broker_core.specs.declared.session.Ended.{Ended}
use Rattle.broker_core.specs.declared.session.SessionError.{SessionError}
use Rattle.broker_core.specs.declared.session.SessionError.TheVariants.{Write}
use Rattle.broker_core.specs.Sessions.{EndsAs, StopsAs}
use Rattle.subcommands.specs.declared.error.SessionFault.{SessionFault}
use Rattle.subcommands.specs.declared.error.SessionFault.TheVariants.{EndsInside, Stopped}

-- What was read, to the reader's end, is frames, and what was written answers them all, from a state on.
pub record AnswersFrom (s : State) (left left' held held' : Option (List ℕ)) (after : State) : Type 0 where
  pub input : List ℕ
  pub output : List ℕ
  pub frames : List (List ℕ)
  pub reads : Consumes left left' input
  pub at_end : IsAtEnd left'
  pub appends : Appends held held' output
  pub answers : Answered s input output after frames []

-- the reader is at its end within a frame, or what comes next is refused
abbrev pub StopsAt : Option (List ℕ) → List ℕ → Type 0
StopsAt left rest =
    (IsAtEnd left × IsIncomplete rest × (0 < length rest)) ⊎ (e : FrameError) × RefusesNext e rest

-- What was read is frames, which were answered from a state on, and a rest that is no frame.
pub record RefusesFrom (s : State) (left left' held held' : Option (List ℕ)) (after : State) : Type 0 where
  pub input : List ℕ
  pub output : List ℕ
  pub frames : List (List ℕ)
  pub rest : List ℕ
  pub reads : Consumes left left' input
  pub appends : Appends held held' output
  pub answers : Answered s input output after frames rest
  pub stops : StopsAt left' rest

-- the input came to its end, what was written answers its frames, and a write or a flush has failed
abbrev pub IsUnflushed : State → (source source' : SourceState) (sink sink' : SinkState) → State → SessionError → Type 0
IsUnflushed s source source' sink sink' after why =
    (why ≡ Write) × (sink'.failed ≡ true) × (ended : Ended) × EndsAs s source source' sink sink' after ended

-- Why a session is no success: it stopped before the end; or a write before the session or the last flush failed; or the input
-- ended within a frame, and nothing of these.
abbrev pub FailsAs : State → (source source' : SourceState) (sink sink' : SinkState) → State → SessionFault → Type 0
FailsAs s source source' sink sink' after EndsInside =
    (sink'.failed ≡ false) × (ended : Ended) × EndsAs s source source' sink sink' after ended × (0 < ended.rest)
FailsAs s source source' sink sink' after (Stopped why) =
    StopsAs s source source' sink sink' after why ⊎ IsUnflushed s source source' sink sink' after why
