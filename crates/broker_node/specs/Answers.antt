-- What stands behind the output once a request was handled, in two parts: the reply, and whether there is one.
use Rattle.std.specs.Prelude.{◌≡◌, ℕ, pos, List, ◌++◌, Option, if◌then◌else◌}
use Rattle.std.specs.Ordering.{int_eq}
use Rattle.request_frames.specs.Requests.BodyValue.{produce}
use Rattle.request_frames.specs.Requests.{BodyValue, RequestValue}
use Rattle.broker_state.specs.State.{State}
use Rattle.answering.specs.Responding.{sent}
use Rattle.broker_node.specs.declared.handling.Answer.{Answer}
use Rattle.broker_node.specs.declared.handling.Answer.TheVariants.{Reply, Silent}
use Rattle.broker_node.specs.Replies.{MayReply}

-- the output has what may be replied behind what it held
pub record RespondsTo (s : State) (q : RequestValue) (held held' : List ℕ) (after : State) : Type 0 where
  pub response : Option (List ℕ)
  pub replies : MayReply s q response after
  pub appends : held' ≡ held ++ sent response

-- only a Produce request with acks 0 is not answered
abbrev pub answer_to : BodyValue → Answer
answer_to (produce q) = if int_eq q.acks (pos 0) then Silent else Reply
answer_to _ = Reply
