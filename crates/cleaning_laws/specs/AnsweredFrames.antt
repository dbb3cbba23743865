-- Frames that are answered one after the other, where memory suffices. Kafka's documentation, "Protocol Guide", section
-- "Network" (requests of a connection are answered in order).
use Rattle.std.specs.Prelude.{◌≡◌, ℕ, List, [], ◌∷◌, map, Option}
use Rattle.std.specs.List.{flat_map, AllByRecursion}
use Rattle.frame_fields.specs.Frames.{IsBytes}
use Rattle.request_frames.specs.Requests.{RequestValue, IsRequest}
use Rattle.answering.specs.Responding.{sent}
use Rattle.broker_state.specs.State.{State}
use Rattle.broker_node.specs.Replies.{Replies}
use Rattle.cleaning_laws.specs.Logs.{Logs}
use Rattle.cleaning_laws.specs.Alike.{StayAlike}
use Rattle.cleaning_laws.specs.Settled.{IsFromLogs}
use Rattle.cleaning_laws.specs.Cleans.{compared_replies}
use Rattle.cleaning_laws.specs.WithMemory.{AnsweredWithMemory}

-- a frame, the request that it is, and the response to it, if there is one
pub record AnsweredFrame : Type 0 where
  pub frame : List ℕ
  pub request : RequestValue
  pub response : Option (List ℕ)

abbrev pub frames_of : List AnsweredFrame → List (List ℕ)
frames_of answered = map (λ a. a.frame) answered

abbrev pub requests_of : List AnsweredFrame → List RequestValue
requests_of answered = map (λ a. a.request) answered

abbrev pub responses_of : List AnsweredFrame → List (Option (List ℕ))
responses_of answered = map (λ a. a.response) answered

-- the bytes that go out
abbrev pub sent_for : List AnsweredFrame → List ℕ
sent_for answered = flat_map (λ a. sent a.response) answered

-- each is answered in the state that the one before it leaves, and no entry's result is a lack of memory
abbrev pub AreAnsweredWithMemory : State → List AnsweredFrame → State → Type 0
AreAnsweredWithMemory s [] after = s ≡ after
AreAnsweredWithMemory s (a ∷ answered) after =
    (m : State) × IsRequest a.frame a.request × Replies AnsweredWithMemory s a.request a.response m
    × AreAnsweredWithMemory m answered after

-- the frames are of bytes, and their requests are within the logs, to a broker that was in this state at first
abbrev pub AreFramesWithin : State → Logs → List AnsweredFrame → Type 0
AreFramesWithin s logs answered =
    AllByRecursion (λ a. IsBytes a.frame × IsFromLogs s logs a.request.body) answered

-- two brokers answered two lists of frames alike
pub record AreAnsweredAlike (logs : Logs) (after after' : State) (answered others : List AnsweredFrame) : Type 0 where
  pub states : StayAlike logs after after'
  pub replies :
      compared_replies (requests_of answered) (responses_of answered) ≡ compared_replies (requests_of others) (responses_of others)
