-- OffsetCommit: a group's offsets are appended to the group topic, one batch for each partition. Kafka's documentation,
-- "Protocol Guide", section "The Messages", and "Consumer Offset Tracking". There are no members and no generations here:
-- this, and the order of the checks, are this project's own.
pub mod Entries
use Rattle.std.specs.Prelude.{ℕ, ℤ, pos, negsuc, true, not, int_lt, nat_lt, List, [], ◌∷◌, length, Some}
use Rattle.std.specs.Option.{option_map}
use Rattle.std.specs.Ordering.{int_eq}
use Rattle.batch_codec.specs.Values.{BatchValue}
use Rattle.frame_fields.specs.Types.{or_empty}
use Rattle.request_frames.specs.OffsetCommit.{OffsetCommitValue, OffsetCommitPartitionValue}
use Rattle.responses.specs.declared.offset_commit.partition.CommittedPartition.{CommittedPartition}
use Rattle.responses.specs.Responses.{response}
use Rattle.responses.specs.OffsetCommit.{offset_commit_response, offset_commit_value}
use Rattle.group_offsets.specs.Batches.{commit_batch}
use Rattle.answering.specs.declared.codes.ErrorCode.TheVariants.{IllegalGeneration, OffsetMetadataTooLarge, InvalidRequest}
use Rattle.answering.specs.Lists.{fault_if}
use Rattle.answering.specs.Codes.{no_error, code_number}
use Rattle.answering.specs.Work.{Work}
use Rattle.answering.specs.Plans.{Plan}
use Rattle.broker_state.specs.Codes.{append_code}
use Rattle.broker_state.specs.State.{State}
use Rattle.broker_state.specs.Checks.{no_group, unknown, not_leader}
use Rattle.broker_state.specs.Batches.{append_fault, appended}
use Rattle.group_requests.specs.GroupPartition.{group_content, with_group_content}
use Rattle.group_requests.specs.declared.offset_commit.TheConstants.{MAX_METADATA_BYTES}

-- ---- an entry

-- the generation that no member of a group is in
abbrev pub offset_commit_generation : ℤ
offset_commit_generation = negsuc 0

-- the batch that is appended; the names of a request are STRINGs, which are never too long for its key
abbrev pub offset_commit_batch : (group name : List ℕ) → OffsetCommitPartitionValue → BatchValue
offset_commit_batch group name e =
    commit_batch (record { group = group; topic = name; partition = e.partition })
    (record { offset = e.offset; metadata = e.metadata })

abbrev pub offset_commit_result : (partition code : ℤ) → CommittedPartition
offset_commit_result partition code = record { index = partition; code = code }

abbrev pub offset_commit_work : State → OffsetCommitValue → List ℕ → OffsetCommitPartitionValue → Work CommittedPartition State
offset_commit_work s q name e =
    let b = offset_commit_batch q.group name e in
    record {
      early =
          no_group q.group
          ∷ fault_if (not (int_eq q.generation offset_commit_generation)) IllegalGeneration
          ∷ unknown s name e.partition
          ∷ not_leader s
          ∷ fault_if (nat_lt MAX_METADATA_BYTES (length (or_empty e.metadata))) OffsetMetadataTooLarge
          ∷ fault_if (int_lt e.offset (pos 0)) InvalidRequest
          ∷ [];
      takes_memory = true;
      late = option_map append_code (append_fault (group_content s) b) ∷ [];
      done = (offset_commit_result e.partition no_error, with_group_content s (appended (group_content s) b).1);
      failed = λ code. offset_commit_result e.partition (code_number code);
    }

-- ---- a request

-- Each entry appends to the group topic, in the state that the one before it leaves.
abbrev pub offset_commit_plan : State → ℤ → OffsetCommitValue → Plan OffsetCommitPartitionValue CommittedPartition State State
offset_commit_plan s correlation q = record {
  topics = q.topics;
  work = λ s name e. offset_commit_work s q name e;
  first = s;
  response = λ ts. Some (response correlation offset_commit_response (offset_commit_value ts));
  after = λ s. s;
}
