-- A follower appends nothing and gives out no id: work that is done by a leader alone has passed the check of the role.
use Rattle.std.proofs.Common.{◌≡◌, ℕ, ℤ, List, ◌++◌, Option, None, refl, sym, ap, ◌∙◌, arith}
use Rattle.std.specs.Prelude.{is_some, not}
use Rattle.std.specs.Ordering.{int_eq}
use Rattle.request_frames.specs.Requests.{BodyValue, RequestValue}
use Rattle.request_frames.specs.Produce.{ProduceValue, ProducePartitionValue}
use Rattle.request_frames.specs.OffsetCommit.{OffsetCommitValue, OffsetCommitPartitionValue}
use Rattle.answering.specs.declared.codes.ErrorCode.TheVariants.{InvalidTopic, InvalidRequiredAcks, IllegalGeneration, InvalidTransactionState}
use Rattle.answering.specs.Lists.{fault_if, first_some}
use Rattle.broker_state.specs.declared.config.Role.TheVariants.{Leader, Follower}
use Rattle.broker_state.specs.State.{State, is_group_topic}
use Rattle.broker_state.specs.Checks.{no_group, unknown, not_leader}
use Rattle.broker_state.proofs.Passed.{none_first, none_both}
use Rattle.log_requests.specs.Produce.{is_acks, produce_work}
use Rattle.group_requests.specs.OffsetCommit.{offset_commit_generation, offset_commit_work}
use Rattle.group_requests.specs.ForgetGroup.{forget_group_work}
use Rattle.group_requests.proofs.OffsetCommitEntries.{leads}
use Rattle.setup_requests.specs.InitProducerId.{init_producer_id_work}
use Rattle.broker_node.specs.Kinds.{kind}
use Rattle.broker_node.specs.Effects.Effect.{gives_id, appends}
use Rattle.broker_node.specs.Effects.{TopicPartition, effect}
use Rattle.broker_node.specs.Replies.{MayReply}
use Rattle.broker_node.proofs.KeptStates.{Keeps, way_keeps}

-- ---- what only a leader does

no_leader : (s m : State) → s.config.role ≡ Follower → m ≡ s → m.config.role ≡ Leader → ⊥
no_leader s m follows same leads = let clash : Leader ≡ Follower = sym leads ∙ ap (λ (x : State). x.config.role) same ∙ follows in absurd cc

pub produce_refused : (s m : State) (q : ProduceValue) (name : List ℕ) (e : ProducePartitionValue) → s.config.role ≡ Follower → m ≡ s → first_some ((produce_work m q name e).early ++ (produce_work m q name e).late) ≡ None
    → (produce_work m q name e).done.1 ≡ s
produce_refused s m q name e follows same none =
    let checks = (none_both (produce_work m q name e).early (produce_work m q name e).late none).0 in
    let acks = none_first (fault_if (not (is_acks q.acks)) InvalidRequiredAcks) _ checks in
    let plain = none_first (fault_if (is_some q.transactional_id) InvalidTransactionState) _ acks.1 in
    let known = none_first (unknown m name e.index) _ plain.1 in
    let named = none_first (fault_if (is_group_topic name) InvalidTopic) _ known.1 in
    absurd (no_leader s m follows same (leads m.config.role (none_first (not_leader m) _ named.1).0))

pub commit_refused : (s m : State) (q : OffsetCommitValue) (name : List ℕ) (e : OffsetCommitPartitionValue) → s.config.role ≡ Follower → m ≡ s → first_some ((offset_commit_work m q name e).early ++ (offset_commit_work m q name e).late) ≡ None
    → (offset_commit_work m q name e).done.1 ≡ s
commit_refused s m q name e follows same none =
    let checks = (none_both (offset_commit_work m q name e).early (offset_commit_work m q name e).late none).0 in
    let named = none_first (no_group q.group) _ checks in
    let generation = none_first (fault_if (not (int_eq q.generation offset_commit_generation)) IllegalGeneration) _ named.1 in
    let known = none_first (unknown m name e.partition) _ generation.1 in
    absurd (no_leader s m follows same (leads m.config.role (none_first (not_leader m) _ known.1).0))

pub forget_refused : (s : State) (group : List ℕ) → s.config.role ≡ Follower → first_some ((forget_group_work s group).early ++ (forget_group_work s group).late) ≡ None → (forget_group_work s group).done.1 ≡ s
forget_refused s group follows none =
    let named = none_first (no_group group) _ (none_both (forget_group_work s group).early (forget_group_work s group).late none).0 in
    absurd (no_leader s s follows refl (leads s.config.role (none_first (not_leader s) None named.1).0))

pub id_refused : (s : State) (id : Option (List ℕ)) → s.config.role ≡ Follower → first_some ((init_producer_id_work s id).early ++ (init_producer_id_work s id).late) ≡ None → (init_producer_id_work s id).done.1 ≡ s
id_refused s id follows none =
    let plain = none_first (fault_if (is_some id) InvalidTransactionState) _ none in
    absurd (no_leader s s follows refl (leads s.config.role (none_first (not_leader s) _ plain.1).0))

-- ---- requests

append_refused : (s : State) (n : ℤ) (body : BodyValue) (ps : List TopicPartition) → s.config.role ≡ Follower → effect body ≡ appends ps → Keeps (λ m. m ≡ s) ((kind body).way s n)
append_refused s n body ps follows is = grind (arith, follows, is, produce_refused, commit_refused, forget_refused)

gift_refused : (s : State) (n : ℤ) (body : BodyValue) → s.config.role ≡ Follower → effect body ≡ gives_id → Keeps (λ m. m ≡ s) ((kind body).way s n)
gift_refused s n body follows is = grind (arith, follows, is, id_refused)

pub appends_nothing : (s after : State) (q : RequestValue) (out : Option (List ℕ)) (ps : List TopicPartition) → s.config.role ≡ Follower → effect q.body ≡ appends ps → MayReply s q out after → after ≡ s
appends_nothing s after q out ps follows is = way_keeps (λ m. m ≡ s) ((kind q.body).way s q.correlation) out after (append_refused s q.correlation q.body ps follows is)

pub gives_nothing : (s after : State) (q : RequestValue) (out : Option (List ℕ)) → s.config.role ≡ Follower → effect q.body ≡ gives_id → MayReply s q out after → after ≡ s
gives_nothing s after q out follows is = way_keeps (λ m. m ≡ s) ((kind q.body).way s q.correlation) out after (gift_refused s q.correlation q.body follows is)
