-- The reply as a function, and as a relation: both go by the way in which a request is answered.
use Rattle.std.proofs.Common.{◌≡◌, ℕ, List, Option, refl, ap}
use Rattle.std.specs.Prelude.{◌↔◌}
use Rattle.request_frames.specs.Requests.{RequestValue}
use Rattle.answering.proofs.AnswersOfAll.{in_full, in_any_case, plan_replies, plan_given, plan_weaker}
use Rattle.answering.proofs.Planned.{once_replies, once_given, once_weaker}
use Rattle.broker_state.specs.State.{State}
use Rattle.broker_node.specs.Ways.Way.{planned, once, fixed}
use Rattle.broker_node.specs.Ways.{Way, reply_by_way, RepliesByWay}
use Rattle.broker_node.specs.Kinds.{kind}
use Rattle.broker_node.specs.Replies.{reply, IsReply, MayReply}

-- ---- by the way

way_replies : {B : Type 0} (w : Way B) (out : Option (List ℕ)) (after : B) → RepliesByWay in_full w out after → (out, after) ≡ reply_by_way w
way_replies (planned p) out after replies = plan_replies p out after replies
way_replies (once response w s) out after replies = once_replies response w s out after replies
way_replies (fixed response s) out after replies = λ i. (replies.0 i, replies.1 i)

pub way_given : {B : Type 0} (w : Way B) (out : Option (List ℕ)) (after : B) → (out, after) ≡ reply_by_way w → RepliesByWay in_full w out after
way_given (planned p) out after is = plan_given p out after is
way_given (once response w s) out after is = once_given response w s out after is
way_given (fixed response s) out after is = (ap (λ x. x.0) is, ap (λ x. x.1) is)

pub way_weaker : {B : Type 0} (w : Way B) (out : Option (List ℕ)) (after : B) → RepliesByWay in_full w out after → RepliesByWay in_any_case w out after
way_weaker (planned p) out after replies = plan_weaker p out after replies
way_weaker (once response w s) out after replies = once_weaker response w s out after replies
way_weaker (fixed response s) out after replies = replies

-- ---- of a request

pub one_reply : (s after : State) (q : RequestValue) (out : Option (List ℕ)) → IsReply s q out after ↔ ((out, after) ≡ reply s q)
one_reply s after q out =
    let w = (kind q.body).way s q.correlation in (way_replies w out after, way_given w out after)

pub may_be_replied : (s after : State) (q : RequestValue) (out : Option (List ℕ)) → IsReply s q out after → MayReply s q out after
may_be_replied s after q out = way_weaker ((kind q.body).way s q.correlation) out after

-- so the reply itself may be replied
pub reply_may_be : (s : State) (q : RequestValue) → MayReply s q (reply s q).0 (reply s q).1
reply_may_be s q = may_be_replied s (reply s q).1 q (reply s q).0 ((one_reply s (reply s q).1 q (reply s q).0).1 refl)
