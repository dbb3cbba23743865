-- From what answering a request does to the output, to what handling it does.
use Rattle.std.proofs.Common.{◌≡◌, ℕ, ℤ, Bool, true, false, cond, List, ◌++◌, Option, Some, None, Result, Ok, Err, refl, sym, ap, subst, ◌∙◌, arith}
use Rattle.std.specs.Prelude.{OnOk}
use Rattle.request_frames.specs.declared.parsing.RequestBody.TheVariants as variants
use Rattle.request_frames.specs.declared.api_versions.ApiVersionsRequest.{ApiVersionsRequest}
use Rattle.request_frames.specs.declared.metadata.request.MetadataRequest.{MetadataRequest}
use Rattle.request_frames.specs.declared.parsing.Request.{Request}
use Rattle.request_frames.specs.declared.parsing.RequestBody.{RequestBody}
use Rattle.request_frames.specs.Requests.{BodyValue, RequestValue}
use Rattle.request_frames.specs.ApiVersions.{api_versions_view}
use Rattle.request_frames.specs.Metadata.{metadata_view}
use Rattle.request_frames.specs.Views.{request_body, request_value}
use Rattle.answering.specs.Work.{Work, MayAnswer}
use Rattle.answering.specs.Plans.{Plan, RepliesBy}
use Rattle.answering.specs.Once.{RepliesOnce, WritesOnce}
use Rattle.answering.proofs.AnswersOfAll.{in_any_case}
use Rattle.broker_state.specs.State.{State}
use Rattle.answering.specs.Responding.{RespondsBy}
use Rattle.log_requests.specs.Metadata.{metadata_reply}
use Rattle.setup_requests.specs.ApiVersions.{api_versions_reply}
use Rattle.broker_node.specs.declared.handling.Answer.{Answer}
use Rattle.broker_node.specs.declared.handling.Answer.TheVariants.{Reply, Silent}
use Rattle.broker_node.specs.Ways.Way.{planned, once, fixed}
use Rattle.broker_node.specs.Ways.{Way, RepliesByWay}
use Rattle.broker_node.specs.Kinds.{kind}
use Rattle.broker_node.specs.Replies.{RepliesTo}
use Rattle.broker_node.specs.Handling.{answer_of, Handles}
use Rattle.broker_node.specs.Answers.{RespondsTo, answer_to}

-- ---- what is written of a request

-- of a request of entries, whose plan this is
pub responds_by : {E R S : Type 0} (p : Plan E R S State) (s after : State) (request : Request) (body : RequestBody) (held held' : List ℕ) → request.body ≡ body
    → ((response : Option (List ℕ)) → RepliesBy (λ R S w. MayAnswer w) p response after → RepliesTo (λ R S w. MayAnswer w) s request.correlation (request_body body) response after)
    → RespondsBy p held held' after → RespondsTo s (request_value request) held held' after
responds_by p s after request body held held' is arm r = record {
  response = r.response;
  replies = subst (λ b. RepliesTo (λ R S w. MayAnswer w) s request.correlation (request_body b) r.response after) (sym is) (arm r.response r.replies);
  appends = r.appends;
}

-- of a request of entries, where it was written
pub plan_responds : {T X E R S : Type 0} (p : Plan E R S State) (r : Result T X) (s after : State) (request : Request) (body : RequestBody) (held held' : List ℕ) → request.body ≡ body
    → ((response : Option (List ℕ)) → RepliesBy (λ R S w. MayAnswer w) p response after → RepliesTo (λ R S w. MayAnswer w) s request.correlation (request_body body) response after)
    → OnOk r (RespondsBy p held held' after) → OnOk r (RespondsTo s (request_value request) held held' after)
plan_responds p (Err e) s after request body held held' is arm responds = tt
plan_responds p (Ok x) s after request body held held' is arm responds = responds_by p s after request body held held' is arm responds

-- of a request of one entry
pub responds_once : {R : Type 0} (sent : ℤ → R → List ℕ) (w : Work R State) (s after : State) (request : Request) (body : RequestBody) (n : ℤ) (held held' : List ℕ) → n ≡ request.correlation → request.body ≡ body
    → ((response : Option (List ℕ)) → RepliesOnce (λ R S w. MayAnswer w) (sent request.correlation) w s response after → RepliesTo (λ R S w. MayAnswer w) s request.correlation (request_body body) response after)
    → WritesOnce (sent n) w s held held' after → RespondsTo s (request_value request) held held' after
responds_once sent w s after request body n held held' same is arm written = record {
  response = Some (sent request.correlation written.result);
  replies = subst (λ b. RepliesTo (λ R S w. MayAnswer w) s request.correlation (request_body b) (Some (sent request.correlation written.result)) after) (sym is)
      (arm (Some (sent request.correlation written.result)) (record { result = written.result; answers = written.answers; sends = refl }));
  appends = written.appends ∙ ap (λ m. held ++ sent m written.result) same;
}

-- of a request of one entry, where it was written
pub once_responds : {R T E : Type 0} (sent : ℤ → R → List ℕ) (w : Work R State) (r : Result T E) (s after : State) (request : Request) (body : RequestBody) (n : ℤ) (held held' : List ℕ) → n ≡ request.correlation → request.body ≡ body
    → ((response : Option (List ℕ)) → RepliesOnce (λ R S w. MayAnswer w) (sent request.correlation) w s response after → RepliesTo (λ R S w. MayAnswer w) s request.correlation (request_body body) response after)
    → OnOk r (WritesOnce (sent n) w s held held' after) → OnOk r (RespondsTo s (request_value request) held held' after)
once_responds sent w (Err e) s after request body n held held' same is arm written = tt
once_responds sent w (Ok x) s after request body n held held' same is arm written = responds_once sent w s after request body n held held' same is arm written

-- of a Metadata request, which has no plan
pub metadata_responds : {T E : Type 0} (r : Result T E) (s : State) (request : Request) (asked : MetadataRequest) (z : ℤ) (held held' : List ℕ) → z ≡ request.correlation → request.body ≡ variants.Metadata asked
    → OnOk r (held' ≡ held ++ metadata_reply s z (metadata_view asked)) → OnOk r (RespondsTo s (request_value request) held held' s)
metadata_responds (Err e) s request asked z held held' same is written = tt
metadata_responds (Ok x) s request asked z held held' same is written = record {
  response = Some (metadata_reply s z (metadata_view asked));
  replies = subst (λ b. RepliesTo (λ R S w. MayAnswer w) s request.correlation (request_body b) (Some (metadata_reply s z (metadata_view asked))) s) (sym is)
      (ap (λ n. Some (metadata_reply s n (metadata_view asked))) same, refl);
  appends = written;
}

-- of an ApiVersions request, which is read of no state
pub versions_respond : {T E : Type 0} (r : Result T E) (s : State) (request : Request) (asked : ApiVersionsRequest) (z : ℤ) (held held' : List ℕ) → z ≡ request.correlation → request.body ≡ variants.ApiVersions asked
    → OnOk r (held' ≡ held ++ api_versions_reply z (api_versions_view asked)) → OnOk r (RespondsTo s (request_value request) held held' s)
versions_respond (Err e) s request asked z held held' same is written = tt
versions_respond (Ok x) s request asked z held held' same is written = record {
  response = Some (api_versions_reply z (api_versions_view asked));
  replies = subst (λ b. RepliesTo (λ R S w. MayAnswer w) s request.correlation (request_body b) (Some (api_versions_reply z (api_versions_view asked))) s) (sym is)
      (ap (λ n. Some (api_versions_reply n (api_versions_view asked))) same, refl);
  appends = written;
}

-- ---- whether there is a reply

-- a request is answered so, whatever comes of its entries
abbrev Tells : {B : Type 0} → Answer → Way B → Type 0
Tells answer (planned p) = (results : _) → answer ≡ answer_of (p.response results)
Tells answer (once response w s) = answer ≡ Reply
Tells answer (fixed response s) = answer ≡ Reply

way_tells : {B : Type 0} (answer : Answer) (w : Way B) (out : Option (List ℕ)) (after : B) → Tells answer w → RepliesByWay in_any_case w out after → answer ≡ answer_of out
way_tells answer (planned p) out after is replies = is replies.results ∙ ap answer_of (sym replies.sends)
way_tells answer (once response w s) out after is replies = is ∙ ap answer_of (sym replies.sends)
way_tells answer (fixed response s) out after is replies = is ∙ ap answer_of (sym replies.0)

silent_or_not : (silent : Bool) (whole : List ℕ) → cond silent Silent Reply ≡ answer_of (cond silent None (Some whole))
silent_or_not true whole = refl
silent_or_not false whole = refl

tells : (s : State) (n : ℤ) (body : BodyValue) → Tells (answer_to body) ((kind body).way s n)
tells s n body = grind (arith, silent_or_not)

pub handled : (s after : State) (q : RequestValue) (held held' : List ℕ) (answer : Answer) → RespondsTo s q held held' after → answer ≡ answer_to q.body
    → Handles s q held held' answer after
handled s after q held held' answer r is = record {
  response = r.response;
  replies = r.replies;
  appends = r.appends;
  tells = is ∙ way_tells (answer_to q.body) ((kind q.body).way s q.correlation) r.response after (tells s q.correlation q.body) r.replies;
}
