-- OffsetCommit: two states that are alike answer it alike.
use Rattle.std.proofs.Common.{◌≡◌, ℕ, ℤ, pos, Bool, not, List, [], ◌∷◌, ◌++◌, length, Option, None, refl, ap, ◌∙◌}
use Rattle.std.specs.Prelude.{int_lt, nat_lt}
use Rattle.std.specs.Option.{option_map}
use Rattle.std.specs.Ordering.{int_eq}
use Rattle.batch_codec.specs.Grammar.{Writable}
use Rattle.frame_fields.specs.Types.{or_empty}
use Rattle.request_frames.specs.OffsetCommit.{OffsetCommitValue, OffsetCommitPartitionValue}
use Rattle.request_frames.specs.Requests.BodyValue.{offset_commit}
use Rattle.partition_log.specs.declared.leader.AppendError.{AppendError}
use Rattle.group_offsets.proofs.BatchSizes.{commit_writable}
use Rattle.answering.specs.declared.codes.ErrorCode.{ErrorCode}
use Rattle.answering.specs.declared.codes.ErrorCode.TheVariants.{IllegalGeneration, OffsetMetadataTooLarge, InvalidRequest, UnknownTopicOrPartition}
use Rattle.answering.specs.Lists.{fault_if, first_some}
use Rattle.answering.specs.Work.{answer}
use Rattle.broker_state.specs.declared.config.Role.{Role}
use Rattle.broker_state.specs.declared.config.Role.TheVariants.{Leader, Follower}
use Rattle.broker_state.specs.Batches.{append_fault}
use Rattle.broker_state.specs.Checks.{no_group, unknown, role_code, not_leader}
use Rattle.broker_state.specs.Codes.{append_code}
use Rattle.broker_state.specs.State.{State, group_topic, is_known}
use Rattle.broker_state.proofs.Passed.{none_first, none_both}
use Rattle.group_requests.specs.GroupPartition.{group_content}
use Rattle.group_requests.specs.OffsetCommit.{offset_commit_generation, offset_commit_batch, offset_commit_work, offset_commit_plan}
use Rattle.group_requests.specs.declared.offset_commit.TheConstants.{MAX_METADATA_BYTES}
use Rattle.group_requests.proofs.OffsetCommitEntries.{leads}
use Rattle.broker_node.specs.Replies.{reply_to}
use Rattle.cleaning_laws.specs.Logs.{Logs}
use Rattle.cleaning_laws.specs.Alike.{AreAlike, StayAlike}
use Rattle.cleaning_laws.specs.Settled.{EachEntry, CommitFits}
use Rattle.cleaning_laws.proofs.TopicsAlike.{Same}
use Rattle.cleaning_laws.proofs.BothAppend.{known_same, role_same, same_fault, both_appended}
use Rattle.cleaning_laws.proofs.SentBatches.{no_code}
use Rattle.cleaning_laws.proofs.WorksAlike.{same_work, works_alike}

module _ (q : OffsetCommitValue) where
  -- ---- the first fault of an entry

  -- what it reads of a state
  abbrev fault_of : OffsetCommitPartitionValue → Bool → Role → Option AppendError → Option ErrorCode
  fault_of e known role fault = first_some (
      (no_group q.group
      ∷ fault_if (not (int_eq q.generation offset_commit_generation)) IllegalGeneration
      ∷ fault_if (not known) UnknownTopicOrPartition
      ∷ role_code role
      ∷ fault_if (nat_lt MAX_METADATA_BYTES (length (or_empty e.metadata))) OffsetMetadataTooLarge
      ∷ fault_if (int_lt e.offset (pos 0)) InvalidRequest
      ∷ [])
      ++ option_map append_code fault ∷ [])

  -- a follower's doesn't read the group partition
  by_role : (e : OffsetCommitPartitionValue) (known : Bool) (role : Role) (f g : Option AppendError) → (role ≡ Leader → f ≡ g) → fault_of e known role f ≡ fault_of e known role g
  by_role e known Leader f g same = ap (fault_of e known Leader) (same refl)
  by_role e known Follower f g same = refl

  module _ (logs : Logs) (s z : State) (name : List ℕ) (e : OffsetCommitPartitionValue) (alike : AreAlike logs s z) where
    abbrev first_of : State → Option ErrorCode
    first_of m = first_some ((offset_commit_work m q name e).early ++ (offset_commit_work m q name e).late)

    abbrev fault : State → Option AppendError
    fault m = append_fault (group_content m) (offset_commit_batch q.group name e)

    same_first : first_of s ≡ first_of z
    same_first =
        by_role e (is_known s name e.partition) s.config.role (fault s) (fault z) (same_fault logs s z group_topic (pos 0) alike (offset_commit_batch q.group name e))
        ∙ (λ i. fault_of e (known_same logs s z name e.partition alike i) (role_same logs s z name e.partition alike i) (fault z))

  -- what an entry without a fault passed
  passed : (s : State) (name : List ℕ) (e : OffsetCommitPartitionValue) → first_some ((offset_commit_work s q name e).early ++ (offset_commit_work s q name e).late) ≡ None
      → (s.config.role ≡ Leader) × (append_fault (group_content s) (offset_commit_batch q.group name e) ≡ None)
  passed s name e none =
      let parts = none_both (offset_commit_work s q name e).early (offset_commit_work s q name e).late none in
      let group = none_first (no_group q.group) _ parts.0 in
      let generation = none_first (fault_if (not (int_eq q.generation offset_commit_generation)) IllegalGeneration) _ group.1 in
      let known = none_first (unknown s name e.partition) _ generation.1 in
      let role = none_first (not_leader s) _ known.1 in
      let b = offset_commit_batch q.group name e in
      (leads s.config.role role.0, no_code append_code (append_fault (group_content s) b) (none_first (option_map append_code (append_fault (group_content s) b)) None parts.1).0)

  batch_writable : (name : List ℕ) (e : OffsetCommitPartitionValue) → CommitFits q.group name e → Writable (offset_commit_batch q.group name e)
  batch_writable name e fits =
      commit_writable (record { group = q.group; topic = name; partition = e.partition }) (record { offset = e.offset; metadata = e.metadata }) fits.0 fits.1

  commit_entry : (logs : Logs) (s z : State) (name : List ℕ) (e : OffsetCommitPartitionValue) → CommitFits q.group name e → AreAlike logs s z
      → Same (StayAlike logs) (answer (offset_commit_work s q name e) s) (answer (offset_commit_work z q name e) z)
  commit_entry logs s z name e fits alike =
      same_work logs s z (offset_commit_work s q name e) (offset_commit_work z q name e) alike (same_first logs s z name e alike) (λ code. refl) (λ none.
      let all = passed s name e none in
      let both = both_appended logs s z group_topic (pos 0) alike (offset_commit_batch q.group name e) all.0 (batch_writable name e fits) all.1 in
      (refl, both.1))

  pub offset_commit_alike : (logs : Logs) (s z : State) (correlation : ℤ) → EachEntry (CommitFits q.group) q.topics → AreAlike logs s z
      → Same (StayAlike logs) (reply_to s correlation (offset_commit q)) (reply_to z correlation (offset_commit q))
  offset_commit_alike logs s z correlation each alike =
      let all = works_alike (λ s name e. offset_commit_work s q name e) (CommitFits q.group) commit_entry logs s z q.topics each alike in
      (ap (offset_commit_plan s correlation q).response all.0, all.1)
