-- What a broker replies to a request, and the state after. Kafka's documentation, "Protocol Guide", sections "The
-- Messages" and "Network" (requests are answered in order, and Produce with acks 0 is not answered).
use Rattle.std.specs.Prelude.{ℕ, ℤ, List, Option}
use Rattle.request_frames.specs.Requests.{BodyValue, RequestValue}
use Rattle.answering.specs.Work.{IsAnswer, MayAnswer}
use Rattle.answering.specs.Plans.{HowAnswered}
use Rattle.broker_state.specs.State.{State}
use Rattle.broker_node.specs.Ways.{reply_by_way, RepliesByWay}
use Rattle.broker_node.specs.Kinds.{kind}

-- the same as below, by the parts of a request
abbrev pub reply_to : State → ℤ → BodyValue → Option (List ℕ) × State
reply_to s correlation body = reply_by_way ((kind body).way s correlation)

-- the response, or none, and the state after, where memory suffices
abbrev pub reply : State → RequestValue → Option (List ℕ) × State
reply s q = reply_to s q.correlation q.body

abbrev pub RepliesTo : HowAnswered → State → ℤ → BodyValue → Option (List ℕ) → State → Type 0
RepliesTo A s correlation body out after = RepliesByWay A ((kind body).way s correlation) out after

-- the response, or none, and the state after, where each entry is answered in the given way
abbrev pub Replies : HowAnswered → State → RequestValue → Option (List ℕ) → State → Type 0
Replies A s q out after = RepliesTo A s q.correlation q.body out after

-- the reply without any entry out of memory
abbrev pub IsReply : State → RequestValue → Option (List ℕ) → State → Type 0
IsReply s q out after = Replies (λ R S w. IsAnswer w) s q out after

-- what may be replied: any entry whose work takes memory may lack it
abbrev pub MayReply : State → RequestValue → Option (List ℕ) → State → Type 0
MayReply s q out after = Replies (λ R S w. MayAnswer w) s q out after
