-- Where no entry's result lacks memory, what may be replied is the reply itself.
use Rattle.std.proofs.Common.{◌≡◌, ℕ, List, ◌++◌, Option, inl, inr, ap, ◌∙◌}
use Rattle.std.specs.Prelude.{◌≢◌}
use Rattle.request_frames.specs.Requests.{RequestValue}
use Rattle.answering.specs.declared.codes.ErrorCode.TheVariants.{StorageError}
use Rattle.answering.specs.Work.{Work, IsAnswer, MayAnswer}
use Rattle.answering.specs.Plans.{Plan, reply_by, RepliesBy}
use Rattle.answering.specs.Once.{reply_once, RepliesOnce}
use Rattle.answering.proofs.AnswersOfAll.{topics_weaker, plan_replies}
use Rattle.answering.proofs.Planned.{once_replies}
use Rattle.broker_state.specs.State.{State}
use Rattle.answering.specs.Responding.{sent}
use Rattle.broker_node.specs.declared.handling.Answer.{Answer}
use Rattle.broker_node.specs.Handling.{answer_of, Handles}
use Rattle.broker_node.specs.Ways.Way.{planned, once, fixed}
use Rattle.broker_node.specs.Ways.{Way, reply_by_way, RepliesByWay}
use Rattle.broker_node.specs.Kinds.{kind}
use Rattle.broker_node.specs.Replies.{reply, Replies}
use Rattle.cleaning_laws.specs.WithMemory.{AnsweredWithMemory}

is_answer : {R S : Type 0} (w : Work R S) (s : S) (r : R) (m : S) → MayAnswer w s r m × (r ≢ w.failed StorageError) → IsAnswer w s r m
is_answer w s r m (inl is, full) = is
is_answer w s r m (inr lack, full) = absurd (full lack.fails)

plan_in_full : {E R S B : Type 0} (p : Plan E R S B) (out : Option (List ℕ)) (after : B) → RepliesBy AnsweredWithMemory p out after → (out, after) ≡ reply_by p
plan_in_full p out after replies = plan_replies p out after (record {
  results = replies.results;
  end = replies.end;
  answers = topics_weaker (λ s name e r m. MayAnswer (p.work s name e) s r m × (r ≢ (p.work s name e).failed StorageError)) (λ s name e r m. IsAnswer (p.work s name e) s r m) (λ s name e r m. is_answer (p.work s name e) s r m) p.first p.topics replies.results replies.end replies.answers;
  sends = replies.sends;
  leaves = replies.leaves;
})

once_in_full : {R S : Type 0} (response : R → List ℕ) (w : Work R S) (s : S) (out : Option (List ℕ)) (after : S) → RepliesOnce AnsweredWithMemory response w s out after → (out, after) ≡ reply_once response w s
once_in_full response w s out after replies = once_replies response w s out after (record {
  result = replies.result;
  answers = is_answer w s replies.result after replies.answers;
  sends = replies.sends;
})

way_in_full : {B : Type 0} (w : Way B) (out : Option (List ℕ)) (after : B) → RepliesByWay AnsweredWithMemory w out after → (out, after) ≡ reply_by_way w
way_in_full (planned p) out after replies = plan_in_full p out after replies
way_in_full (once response w s) out after replies = once_in_full response w s out after replies
way_in_full (fixed response s) out after replies = λ i. (replies.0 i, replies.1 i)

pub full_reply : (s after : State) (q : RequestValue) (out : Option (List ℕ)) → Replies AnsweredWithMemory s q out after → (out, after) ≡ reply s q
full_reply s after q out = way_in_full ((kind q.body).way s q.correlation) out after

-- as it is handled
pub full_handled : (s after : State) (q : RequestValue) (held held' : List ℕ) (answer : Answer) (handles : Handles s q held held' answer after) → Replies AnsweredWithMemory s q handles.response after
    → (held' ≡ held ++ sent (reply s q).0) × (answer ≡ answer_of (reply s q).0) × (after ≡ (reply s q).1)
full_handled s after q held held' answer handles full =
    let is = full_reply s after q handles.response full in
    (handles.appends ∙ ap (λ p. held ++ sent p.0) is, handles.tells ∙ ap (λ p. answer_of p.0) is, ap (λ p. p.1) is)
