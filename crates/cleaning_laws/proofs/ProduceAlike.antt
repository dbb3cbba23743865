-- Produce: two states that are alike answer it alike.
use Rattle.std.proofs.Common.{◌≡◌, ℕ, ℤ, Bool, not, is_some, List, [], ◌∷◌, ◌++◌, Option, None, refl, ap, ◌∙◌}
use Rattle.std.specs.Option.{option_map}
use Rattle.batch_codec.specs.Reading.{batch_of}
use Rattle.frame_fields.specs.Frames.{IsBytes}
use Rattle.request_frames.specs.Produce.{ProduceValue, ProducePartitionValue}
use Rattle.request_frames.specs.Requests.BodyValue.{produce}
use Rattle.partition_log.specs.declared.leader.AppendError.{AppendError}
use Rattle.answering.specs.declared.codes.ErrorCode.{ErrorCode}
use Rattle.answering.specs.declared.codes.ErrorCode.TheVariants.{InvalidTopic, InvalidRequiredAcks, InvalidTransactionState, UnknownTopicOrPartition}
use Rattle.answering.specs.Codes.{no_error}
use Rattle.answering.specs.Lists.{fault_if, first_some}
use Rattle.answering.specs.Work.{answer}
use Rattle.broker_state.specs.declared.config.Role.{Role}
use Rattle.broker_state.specs.declared.config.Role.TheVariants.{Leader, Follower}
use Rattle.broker_state.specs.Batches.{batch_checks, append_fault}
use Rattle.broker_state.specs.Checks.{unknown, role_code, not_leader}
use Rattle.broker_state.specs.Codes.{append_code}
use Rattle.broker_state.specs.State.{State, is_group_topic, is_known, content_at}
use Rattle.broker_state.proofs.Passed.{none_first, none_both}
use Rattle.log_requests.specs.Produce.{is_acks, produce_result, produce_checks, produce_work, produce_plan}
use Rattle.group_requests.proofs.OffsetCommitEntries.{leads}
use Rattle.broker_node.specs.Replies.{reply_to}
use Rattle.cleaning_laws.proofs.SentBatches.{no_code, sent_encoding}
use Rattle.cleaning_laws.specs.Logs.{Logs}
use Rattle.cleaning_laws.specs.Alike.{AreAlike, StayAlike}
use Rattle.cleaning_laws.specs.Settled.{EachEntry}
use Rattle.cleaning_laws.proofs.TopicsAlike.{Same}
use Rattle.cleaning_laws.proofs.BothAppend.{known_same, role_same, same_fault, both_appended}
use Rattle.cleaning_laws.proofs.WorksAlike.{same_work, works_alike}

module _ (q : ProduceValue) where
  -- ---- the first fault of an entry

  -- what it reads of a state
  abbrev fault_of : List ℕ → ProducePartitionValue → Bool → Role → Option AppendError → Option ErrorCode
  fault_of name e known role fault = first_some (
      (fault_if (not (is_acks q.acks)) InvalidRequiredAcks
      ∷ fault_if (is_some q.transactional_id) InvalidTransactionState
      ∷ fault_if (not known) UnknownTopicOrPartition
      ∷ fault_if (is_group_topic name) InvalidTopic
      ∷ role_code role
      ∷ batch_checks e.records
      ++ option_map append_code fault ∷ [])
      ++ [])

  -- a follower's doesn't read its partition
  by_role : (name : List ℕ) (e : ProducePartitionValue) (known : Bool) (role : Role) (f g : Option AppendError) → (role ≡ Leader → f ≡ g) → fault_of name e known role f ≡ fault_of name e known role g
  by_role name e known Leader f g same = ap (fault_of name e known Leader) (same refl)
  by_role name e known Follower f g same = refl

  module _ (logs : Logs) (s z : State) (name : List ℕ) (e : ProducePartitionValue) (alike : AreAlike logs s z) where
    abbrev fault : State → Option AppendError
    fault m = append_fault (content_at m name e.index) (batch_of e.records)

    same_first : first_some (produce_checks s q name e ++ []) ≡ first_some (produce_checks z q name e ++ [])
    same_first =
        by_role name e (is_known s name e.index) s.config.role (fault s) (fault z) (same_fault logs s z name e.index alike (batch_of e.records))
        ∙ (λ i. fault_of name e (known_same logs s z name e.index alike i) (role_same logs s z name e.index alike i) (fault z))

  -- what an entry without a fault passed
  passed : (s : State) (name : List ℕ) (e : ProducePartitionValue) → first_some (produce_checks s q name e) ≡ None
      → (s.config.role ≡ Leader) × (first_some (batch_checks e.records) ≡ None) × (append_fault (content_at s name e.index) (batch_of e.records) ≡ None)
  passed s name e none =
      let acks = none_first (fault_if (not (is_acks q.acks)) InvalidRequiredAcks) _ none in
      let transaction = none_first (fault_if (is_some q.transactional_id) InvalidTransactionState) _ acks.1 in
      let known = none_first (unknown s name e.index) _ transaction.1 in
      let group = none_first (fault_if (is_group_topic name) InvalidTopic) _ known.1 in
      let role = none_first (not_leader s) _ group.1 in
      let batch = none_both (batch_checks e.records) (option_map append_code (append_fault (content_at s name e.index) (batch_of e.records)) ∷ []) role.1 in
      (leads s.config.role role.0, batch.0, no_code append_code (append_fault (content_at s name e.index) (batch_of e.records)) (none_first _ None batch.1).0)

  produce_entry : (logs : Logs) (s z : State) (name : List ℕ) (e : ProducePartitionValue) → IsBytes e.records → AreAlike logs s z
      → Same (StayAlike logs) (answer (produce_work s q name e) s) (answer (produce_work z q name e) z)
  produce_entry logs s z name e bytes alike =
      same_work logs s z (produce_work s q name e) (produce_work z q name e) alike (same_first logs s z name e alike) (λ code. refl) (λ none.
      let all = passed s name e (none_both (produce_checks s q name e) [] none).0 in
      let both = both_appended logs s z name e.index alike (batch_of e.records) all.0 (sent_encoding e.records bytes all.1).0 all.2 in
      ((λ i. produce_result e.index no_error (both.0 i)), both.1))

  pub produce_alike : (logs : Logs) (s z : State) (correlation : ℤ) → EachEntry (λ name e. IsBytes e.records) q.topics → AreAlike logs s z
      → Same (StayAlike logs) (reply_to s correlation (produce q)) (reply_to z correlation (produce q))
  produce_alike logs s z correlation each alike =
      let all = works_alike (λ s name e. produce_work s q name e) (λ name e. IsBytes e.records) produce_entry logs s z q.topics each alike in
      (ap (produce_plan s correlation q).response all.0, all.1)
