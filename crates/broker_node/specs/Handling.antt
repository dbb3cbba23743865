-- What handling a request does to a broker and to the output.
use Rattle.std.specs.Prelude.{◌≡◌, ℕ, List, ◌++◌, Option, Some, None}
use Rattle.request_frames.specs.Requests.{RequestValue}
use Rattle.broker_node.specs.declared.handling.Answer.{Answer}
use Rattle.broker_node.specs.declared.handling.Answer.TheVariants.{Reply, Silent}
use Rattle.broker_state.specs.State.{State}
use Rattle.broker_node.specs.Replies.{MayReply}
use Rattle.answering.specs.Responding.{sent}

abbrev pub answer_of : Option (List ℕ) → Answer
answer_of (Some response) = Reply
answer_of None = Silent

-- the output has what may be replied behind what it held, and the answer tells whether there is a response
pub record Handles (s : State) (q : RequestValue) (held held' : List ℕ) (answer : Answer) (after : State) : Type 0 where
  pub response : Option (List ℕ)
  pub replies : MayReply s q response after
  pub appends : held' ≡ held ++ sent response
  pub tells : answer ≡ answer_of response
