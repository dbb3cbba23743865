-- What each effect on one partition says: what cleans makes a cleaning, what trims a cut, and what takes from another copy
-- does nothing at a leader whose log has begun. A request of the effect is of a kind that has it, and that kind's work, where
-- it is done, is by its definition what is said.
use Rattle.std.proofs.Common.{◌≡◌, inl, inr, ℕ, ℤ, Bool, true, List, ◌++◌, Option, Some, None, refl, sym, ap, subst, ◌∙◌, true≢false, arith}
use Rattle.content.specs.Content.{Content}
use Rattle.request_frames.specs.Requests.BodyValue.{deliver, import, import_delta, clean, clean_part, trim}
use Rattle.request_frames.specs.Requests.{BodyValue, RequestValue}
use Rattle.request_frames.specs.Deliver.{DeliverValue}
use Rattle.request_frames.specs.Import.{ImportValue}
use Rattle.request_frames.specs.ImportDelta.{ImportDeltaValue}
use Rattle.request_frames.specs.Clean.{CleanValue}
use Rattle.request_frames.specs.CleanPart.{CleanPartValue}
use Rattle.request_frames.specs.Trim.{TrimValue}
use Rattle.answering.specs.declared.codes.ErrorCode.TheVariants.{InvalidRequest}
use Rattle.answering.specs.Lists.{first_some}
use Rattle.broker_state.specs.declared.config.Role.{Role}
use Rattle.broker_state.specs.declared.config.Role.TheVariants.{Leader, Follower}
use Rattle.broker_state.specs.Checks.{follower_code, not_follower, unknown}
use Rattle.broker_state.specs.State.{State, content_at}
use Rattle.broker_state.proofs.Passed.{none_first, none_both, no_fault}
use Rattle.copy_requests.specs.declared.clean.Cleaning.TheVariants.{Whole, Part}
use Rattle.copy_requests.specs.Clean.{asked_part as part_of}
use Rattle.copy_requests.specs.Deliver.{deliver_work}
use Rattle.copy_requests.specs.Import.{has_begun, import_role_fault, import_work}
use Rattle.copy_requests.specs.ImportDelta.{import_delta_work}
use Rattle.broker_node.specs.Kinds.{kind}
use Rattle.broker_node.specs.Effects.Effect.{takes, cleans, trims}
use Rattle.broker_node.specs.Effects.{Effect, TopicPartition, effect}
use Rattle.broker_node.specs.Replies.{MayReply}
use Rattle.broker_node.proofs.KeptStates.{Keeps, way_keeps}
use Rattle.broker_laws.specs.OneChange.{CleansAt, TrimsAt}
use Rattle.broker_laws.proofs.AskedCleans.{asked_clean, asked_part, of_clean}

-- ---- requests of one kind

-- the partition that an effect is on, where it is on one
abbrev place_of : (other : TopicPartition) → Effect → TopicPartition
place_of other (takes p) = p
place_of other (cleans p) = p
place_of other (trims p) = p
place_of other _ = other

cleans_some : (body : BodyValue) (p : TopicPartition) → effect body ≡ cleans p → asked_clean body ≡ None → asked_part body ≡ None → ⊥
cleans_some body p is none no_part = absurd (grind (arith, is, none, no_part))

abbrev asked_trim : BodyValue → Option TrimValue
asked_trim (trim q) = Some q
asked_trim _ = None

asks_trim : (body : BodyValue) (q : TrimValue) → asked_trim body ≡ Some q → body ≡ trim q
asks_trim body q one = grind (arith, one)

trims_some : (body : BodyValue) (p : TopicPartition) → effect body ≡ trims p → asked_trim body ≡ None → ⊥
trims_some body p is none = absurd (grind (arith, is, none))

-- ---- a cleaning, and a cut

cleaned_there : (s : State) (n : ℤ) (q : CleanValue) → Keeps (CleansAt (record { topic = q.topic; partition = q.partition }) s) ((kind (clean q)).way s n)
cleaned_there s n q = (inl refl, λ none. inr ((Whole q.upto q.tomb_before, refl)))

part_there : (s : State) (n : ℤ) (q : CleanPartValue) → Keeps (CleansAt (record { topic = q.topic; partition = q.partition }) s) ((kind (clean_part q)).way s n)
part_there s n q = (inl refl, λ none. inr ((Part (part_of q), refl)))

-- where the effect of a request is a cleaning
abbrev CleansAsked : State → (n : ℤ) → TopicPartition → BodyValue → Type 0
CleansAsked s n p body = effect body ≡ cleans p → Keeps (CleansAt p s) ((kind body).way s n)

pub cleans_there : (s after : State) (q : RequestValue) (out : Option (List ℕ)) (p : TopicPartition) → effect q.body ≡ cleans p → MayReply s q out after → CleansAt p s after
cleans_there s after q out p is =
    way_keeps (CleansAt p s) ((kind q.body).way s q.correlation) out after
    (of_clean (CleansAsked s q.correlation p)
    (λ asked here. subst (λ (x : TopicPartition). Keeps (CleansAt x s) ((kind (clean asked)).way s q.correlation)) (ap (place_of p) here) (cleaned_there s q.correlation asked))
    (λ asked here. subst (λ (x : TopicPartition). Keeps (CleansAt x s) ((kind (clean_part asked)).way s q.correlation)) (ap (place_of p) here) (part_there s q.correlation asked))
    q.body (cleans_some q.body p is) is)

cut_there : (s : State) (n : ℤ) (q : TrimValue) → Keeps (TrimsAt (record { topic = q.topic; partition = q.partition }) s) ((kind (trim q)).way s n)
cut_there s n q = (inl refl, λ none. inr ((q.start, refl)))

pub trims_there : (s after : State) (q : RequestValue) (out : Option (List ℕ)) (p : TopicPartition) → effect q.body ≡ trims p → MayReply s q out after → TrimsAt p s after
trims_there s after q out p is = by (asked_trim q.body) refl
  where
    by : (o : Option TrimValue) → asked_trim q.body ≡ o → MayReply s q out after → TrimsAt p s after
    by None e = absurd (trims_some q.body p is e)
    by (Some asked) e =
        let body = asks_trim q.body asked e in
        let here : record { topic = asked.topic; partition = asked.partition } ≡ p = ap (place_of p) (subst (λ (b : BodyValue). effect b ≡ trims p) body is) in
        way_keeps (TrimsAt p s) ((kind q.body).way s q.correlation) out after
        (subst (λ (b : BodyValue). Keeps (TrimsAt p s) ((kind b).way s q.correlation)) (sym body)
        (subst (λ (x : TopicPartition). Keeps (TrimsAt x s) ((kind (trim asked)).way s q.correlation)) here (cut_there s q.correlation asked)))

-- ---- a leader takes nothing from another copy

leads_not : (role : Role) → role ≡ Leader → follower_code role ≡ None → ⊥
leads_not Leader leads none = absurd cc
leads_not Follower leads none = absurd cc

begun_not : (role : Role) (c : Content) → role ≡ Leader → has_begun c ≡ true → import_role_fault role c ≡ None → ⊥
begun_not Leader c leads begun none = absurd (true≢false (sym begun ∙ no_fault (has_begun c) InvalidRequest none))
begun_not Follower c leads begun none = absurd cc

deliver_refused : (s : State) (q : DeliverValue) → s.config.role ≡ Leader → first_some ((deliver_work s q).early ++ (deliver_work s q).late) ≡ None → (deliver_work s q).done.1 ≡ s
deliver_refused s q leads none =
    let known = none_first (unknown s q.topic q.partition) _ (none_both (deliver_work s q).early (deliver_work s q).late none).0 in
    absurd (leads_not s.config.role leads (none_first (not_follower s) _ known.1).0)

delta_refused : (s : State) (q : ImportDeltaValue) → s.config.role ≡ Leader → first_some ((import_delta_work s q).early ++ (import_delta_work s q).late) ≡ None → (import_delta_work s q).done.1 ≡ s
delta_refused s q leads none =
    let known = none_first (unknown s q.topic q.partition) _ (none_both (import_delta_work s q).early (import_delta_work s q).late none).0 in
    absurd (leads_not s.config.role leads (none_first (not_follower s) _ known.1).0)

import_refused : (s : State) (q : ImportValue) → s.config.role ≡ Leader → has_begun (content_at s q.topic q.partition) ≡ true → first_some ((import_work s q).early ++ (import_work s q).late) ≡ None → (import_work s q).done.1 ≡ s
import_refused s q leads begun none =
    let here = content_at s q.topic q.partition in
    let known = none_first (unknown s q.topic q.partition) _ (none_both (import_work s q).early (import_work s q).late none).0 in
    absurd (begun_not s.config.role here leads begun (none_first (import_role_fault s.config.role here) _ known.1).0)

-- whether the log at the place of an effect has begun
abbrev has_begun_at : State → TopicPartition → Bool
has_begun_at s p = has_begun (content_at s p.topic p.partition)

take_refused : (s : State) (n : ℤ) (body : BodyValue) (p : TopicPartition) → s.config.role ≡ Leader → has_begun_at s p ≡ true → effect body ≡ takes p → Keeps (λ m. m ≡ s) ((kind body).way s n)
take_refused s n body p leads begun is = grind (arith, leads, begun, is, deliver_refused, delta_refused, import_refused)

pub takes_nothing : (s after : State) (q : RequestValue) (out : Option (List ℕ)) (p : TopicPartition) → s.config.role ≡ Leader → has_begun (content_at s p.topic p.partition) ≡ true → effect q.body ≡ takes p → MayReply s q out after → after ≡ s
takes_nothing s after q out p leads begun is = way_keeps (λ m. m ≡ s) ((kind q.body).way s q.correlation) out after (take_refused s q.correlation q.body p leads begun is)
