-- What a broker writes for a whole stream of requests, however the stream came in pieces. Kafka's documentation,
-- "Protocol Guide", sections "Network" (requests of a connection are answered in order) and "Common Request and Response
-- Structure".
use Rattle.std.specs.Prelude.{◌≡◌, ◌⊎◌, ℕ, List, [], ◌∷◌, ◌++◌, Option}
use Rattle.frame_fields.specs.declared.error.FrameError.{FrameError}
use Rattle.request_frames.specs.Requests.{RequestValue, IsRequest, IsRefused}
use Rattle.frame_fields.specs.Frames.{IsFrames, IsFirstFrame, SizeFault}
use Rattle.broker_state.specs.State.{State}
use Rattle.answering.specs.Responding.{sent}
use Rattle.broker_node.specs.Replies.{MayReply}

-- A frame is a request, and these bytes are what may be replied to it.
pub record IsAnswered (s : State) (frame : List ℕ) (out : List ℕ) (after : State) : Type 0 where
  pub request : RequestValue
  pub response : Option (List ℕ)
  pub reads : IsRequest frame request
  pub replies : MayReply s request response after
  pub sends : out ≡ sent response

-- the frames are answered one after the other
abbrev pub AreAnswered : State → List (List ℕ) → List ℕ → State → Type 0
AreAnswered s [] out after = (out ≡ []) × (s ≡ after)
AreAnswered s (frame ∷ frames) out after =
    (one more : List ℕ) × (m : State) × IsAnswered s frame one m × (out ≡ one ++ more) × AreAnswered m frames more after

-- The bytes that came are these frames and a rest, and the bytes that went out answer the frames.
pub record Answered (s : State) (input output : List ℕ) (after : State) (frames : List (List ℕ)) (rest : List ℕ) : Type 0 where
  pub cut : IsFrames input frames rest
  pub answers : AreAnswered s frames output after

-- why what comes next is refused: its size, or a frame that is no request
abbrev pub RefusesNext : FrameError → List ℕ → Type 0
RefusesNext e rest =
    SizeFault e rest ⊎ (frame more : List ℕ) × IsFirstFrame frame rest more × IsRefused e frame
