-- From what answering a request does to the output and what is told of memory, to what handling it exactly does.
use Rattle.std.proofs.Common.{◌≡◌, inr, ℕ, ℤ, true, false, List, ◌++◌, Option, Some, Result, Ok, Err, refl, sym, ap, subst, ◌∙◌, true≢false}
use Rattle.std.specs.Prelude.{IfOk, OnOk, OnErr}
use Rattle.request_frames.specs.declared.parsing.Request.{Request}
use Rattle.request_frames.specs.declared.parsing.RequestBody.{RequestBody}
use Rattle.request_frames.specs.Requests.{RequestValue}
use Rattle.request_frames.specs.Views.{request_body, request_value}
use Rattle.answering.specs.declared.memory.Memory.{Memory}
use Rattle.answering.specs.declared.memory.Memory.TheVariants.{Sufficed, Lacked, LackedInPart}
use Rattle.answering.specs.Work.{Work}
use Rattle.answering.specs.Plans.{Plan}
use Rattle.answering.specs.Responding.{sent}
use Rattle.answering.specs.Telling.{WritesTold, RepliesTold, RespondsTold}
use Rattle.answering.proofs.AnswersOfAll.{in_full, in_any_case, plan_want_may}
use Rattle.answering.proofs.ToldPlans.{told_in_full, told_lacks, told_lacks_in_part, want_changes_nothing}
use Rattle.broker_state.specs.State.{State}
use Rattle.broker_node.specs.declared.handling.Answer.{Answer}
use Rattle.broker_node.specs.Ways.Way.{planned, once, fixed}
use Rattle.broker_node.specs.Ways.{Way, RepliesByWay}
use Rattle.broker_node.specs.Kinds.{kind}
use Rattle.broker_node.specs.Effects.{may_change}
use Rattle.broker_node.specs.Answers.{RespondsTo, answer_to}
use Rattle.broker_node.specs.Handling.{Handles}
use Rattle.broker_node.specs.Exactly.{LacksByWay, LacksInPartByWay, HandlesExactly, told_sufficed}
use Rattle.broker_node.proofs.PlannedReplies.{way_weaker}
use Rattle.broker_node.proofs.HandledReplies.{handled}

-- ---- by the way

-- in the state in which the request is answered
abbrev pub ToldByWay : {B : Type 0} → Memory → Way B → B → Option (List ℕ) → B → Type 0
ToldByWay Sufficed w s out after = RepliesByWay in_full w out after
ToldByWay Lacked w s out after = LacksByWay w out after × (after ≡ s)
ToldByWay LackedInPart w s out after = LacksInPartByWay w out after

lacks_may : {B : Type 0} (w : Way B) (out : Option (List ℕ)) (after : B) → LacksByWay w out after → RepliesByWay in_any_case w out after
lacks_may (planned p) out after lacks = plan_want_may p out after lacks.0
lacks_may (once response w s) out after lacks = record { result = lacks.result; answers = inr lacks.answers; sends = lacks.sends }
lacks_may (fixed response s) out after lacks = absurd lacks

lacks_in_part_may : {B : Type 0} (w : Way B) (out : Option (List ℕ)) (after : B) → LacksInPartByWay w out after → RepliesByWay in_any_case w out after
lacks_in_part_may (planned p) out after lacks = lacks.0
lacks_in_part_may (once response w s) out after lacks = absurd lacks
lacks_in_part_may (fixed response s) out after lacks = absurd lacks

planned_told : {E R S B : Type 0} (p : Plan E R S B) (s : B) → p.after p.first ≡ s → (memory : Memory) (out : Option (List ℕ)) (after : B) → RepliesTold p out memory after → ToldByWay memory (planned p) s out after
planned_told p s starts Sufficed out after told = told_in_full p out after told
planned_told p s starts Lacked out after told =
    let lacks = told_lacks p out after told in (lacks, want_changes_nothing p out after lacks.0 ∙ starts)
planned_told p s starts LackedInPart out after told = told_lacks_in_part p out after told

once_told : {R B : Type 0} (response : R → List ℕ) (w : Work R B) (s : B) (memory : Memory) (held held' : List ℕ) (after : B) → (written : WritesTold response w s held held' memory after)
    → ToldByWay memory (once response w s) s (Some (response written.result)) after
once_told response w s Sufficed held held' after written = record { result = written.result; answers = written.answers; sends = refl }
once_told response w s Lacked held held' after written = (record { result = written.result; answers = written.answers; sends = refl }, written.answers.unchanged)
once_told response w s LackedInPart held held' after written = absurd written.answers

-- ---- of a request that may change something

exactly : (s after : State) (q : RequestValue) (held held' : List ℕ) (memory : Memory) (response : Option (List ℕ)) → may_change q.body ≡ true
    → ToldByWay memory ((kind q.body).way s q.correlation) s response after → held' ≡ held ++ sent response → HandlesExactly s q held held' memory after
exactly s after q held held' Sufficed response changes told appends = record {
  response = response;
  replies = way_weaker ((kind q.body).way s q.correlation) response after told;
  appends = appends;
  tells = λ may. told;
  reads_only = λ none. absurd (true≢false (sym changes ∙ none));
}
exactly s after q held held' Lacked response changes told appends = record {
  response = response;
  replies = lacks_may ((kind q.body).way s q.correlation) response after told.0;
  appends = appends;
  tells = told;
  reads_only = λ none. absurd (true≢false (sym changes ∙ none));
}
exactly s after q held held' LackedInPart response changes told appends = record {
  response = response;
  replies = lacks_in_part_may ((kind q.body).way s q.correlation) response after told;
  appends = appends;
  tells = told;
  reads_only = λ none. absurd (true≢false (sym changes ∙ none));
}

-- of the request with this body
of_body : (s after : State) (request : Request) (body : RequestBody) (held held' : List ℕ) (memory : Memory) (response : Option (List ℕ)) → request.body ≡ body → may_change (request_body body) ≡ true
    → ToldByWay memory ((kind (request_body body)).way s request.correlation) s response after → held' ≡ held ++ sent response → HandlesExactly s (request_value request) held held' memory after
of_body s after request body held held' memory response is changes told appends =
    exactly s after (request_value request) held held' memory response (ap (λ b. may_change (request_body b)) is ∙ changes)
    (subst (λ b. ToldByWay memory ((kind (request_body b)).way s request.correlation) s response after) (sym is) told) appends

-- of entries, whose plan this is
pub planned_exactly : {E R S X : Type 0} (p : Plan E R S State) (r : Result Memory X) (s after : State) (request : Request) (body : RequestBody) (held held' : List ℕ) → request.body ≡ body → may_change (request_body body) ≡ true → p.after p.first ≡ s
    → ((memory : Memory) (response : Option (List ℕ)) → ToldByWay memory (planned p) s response after → ToldByWay memory ((kind (request_body body)).way s request.correlation) s response after)
    → IfOk r (λ memory. RespondsTold p held held' memory after) → IfOk r (λ memory. HandlesExactly s (request_value request) held held' memory after)
planned_exactly p (Err e) s after request body held held' is changes starts arm responds = tt
planned_exactly p (Ok memory) s after request body held held' is changes starts arm responds =
    of_body s after request body held held' memory responds.response is changes
    (arm memory responds.response (planned_told p s starts memory responds.response after responds.replies)) responds.appends

-- of one entry
pub once_exactly : {R X : Type 0} (sent : ℤ → R → List ℕ) (w : Work R State) (r : Result Memory X) (s after : State) (request : Request) (body : RequestBody) (n : ℤ) (held held' : List ℕ) → n ≡ request.correlation → request.body ≡ body → may_change (request_body body) ≡ true
    → ((memory : Memory) (response : Option (List ℕ)) → ToldByWay memory (once (sent request.correlation) w s) s response after → ToldByWay memory ((kind (request_body body)).way s request.correlation) s response after)
    → IfOk r (λ memory. WritesTold (sent n) w s held held' memory after) → IfOk r (λ memory. HandlesExactly s (request_value request) held held' memory after)
once_exactly sent w (Err e) s after request body n held held' same is changes arm writes = tt
once_exactly sent w (Ok memory) s after request body n held held' same is changes arm writes =
    let written = subst (λ m. WritesTold (sent m) w s held held' memory after) same writes in
    of_body s after request body held held' memory (Some (sent request.correlation written.result)) is changes
    (arm memory (Some (sent request.correlation written.result)) (once_told (sent request.correlation) w s memory held held' after written)) written.appends

-- ---- of a request that only reads

reads_alone : (s : State) (q : RequestValue) (held held' : List ℕ) → may_change q.body ≡ false → RespondsTo s q held held' s → HandlesExactly s q held held' Sufficed s
reads_alone s q held held' reads r = record {
  response = r.response;
  replies = r.replies;
  appends = r.appends;
  tells = λ may. absurd (true≢false (sym may ∙ reads));
  reads_only = λ none. (refl, refl);
}

pub reads_exactly : {X : Type 0} (told : Result Memory X) (r : Result (Unit {0}) X) (s : State) (request : Request) (body : RequestBody) (held held' : List ℕ) → told ≡ told_sufficed r → request.body ≡ body → may_change (request_body body) ≡ false
    → OnOk r (RespondsTo s (request_value request) held held' s) → IfOk told (λ memory. HandlesExactly s (request_value request) held held' memory s)
reads_exactly told r s request body held held' is of reads responds =
    subst (λ t. IfOk t (λ memory. HandlesExactly s (request_value request) held held' memory s)) (sym is) (by r responds)
  where
    by : {X : Type 0} (r : Result (Unit {0}) X) → OnOk r (RespondsTo s (request_value request) held held' s) → IfOk (told_sufficed r) (λ memory. HandlesExactly s (request_value request) held held' memory s)
    by (Ok done) responds = reads_alone s (request_value request) held held' (ap (λ b. may_change (request_body b)) of ∙ reads) responds
    by (Err e) responds = tt

pub reads_fail : {X : Type 0} (P : Type 0) (told : Result Memory X) (r : Result (Unit {0}) X) → told ≡ told_sufficed r → OnErr r P → OnErr told P
reads_fail P told r is fails = subst (λ t. OnErr t P) (sym is) (by r fails)
  where
    by : {X : Type 0} (r : Result (Unit {0}) X) → OnErr r P → OnErr (told_sufficed r) P
    by (Ok done) fails = tt
    by (Err e) fails = fails

-- ---- what handling it does

pub exactly_handled : (s after : State) (q : RequestValue) (held held' : List ℕ) (memory : Memory) (answer : Answer) → HandlesExactly s q held held' memory after → answer ≡ answer_to q.body
    → Handles s q held held' answer after
exactly_handled s after q held held' memory answer h is =
    handled s after q held held' answer (record { response = h.response; replies = h.replies; appends = h.appends }) is
