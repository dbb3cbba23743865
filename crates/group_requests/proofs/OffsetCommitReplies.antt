-- The answers to an OffsetCommit request make one of the replies that its plan allows.
use Rattle.std.proofs.Common.{◌≡◌, ℕ, List, [], ◌++◌, length, Some, ap, sym, subst, ◌∙◌, append_assoc, append-nil}
use Rattle.std.specs.Prelude.{ℤ, pos, Option}
use Rattle.std.specs.List.{flat_map}
use Rattle.std.specs.Option.{option_map}
use Rattle.request_frames.specs.declared.offset_commit.partition.OffsetCommitPartition.{OffsetCommitPartition}
use Rattle.responses.specs.declared.offset_commit.partition.CommittedPartition.{CommittedPartition}
use Rattle.frame_fields.specs.Fields.{Value, size32, be, elements, encoded}
use Rattle.frame_fields.specs.Reading.{nothing}
use Rattle.frame_fields.specs.Types.{TopicOf}
use Rattle.frame_fields.specs.Frames.{framed}
use Rattle.request_frames.specs.OffsetCommit.{OffsetCommitValue, offset_commit_partition, offset_commit_partition_value}
use Rattle.responses.specs.Responses.{response, topic_bytes}
use Rattle.responses.specs.OffsetCommit.{committed_partition_bytes, offset_commit_response, offset_commit_value}
use Rattle.responses.proofs.OffsetCommitParts.{offset_commit_parts}
use Rattle.answering.specs.declared.memory.Memory.{Memory}
use Rattle.answering.specs.Telling.{TellsNext}
use Rattle.broker_state.specs.State.{State}
use Rattle.group_requests.specs.OffsetCommit.{offset_commit_work}

pub offset_commit_tells : (q : OffsetCommitValue) (before : State × Option Memory) (name : List ℕ) (v : Value offset_commit_partition) (r : CommittedPartition) (after : State × Option Memory)
    → (e : OffsetCommitPartition) × ((e.partition, (e.offset, (option_map (λ bytes. bytes.now) e.metadata, nothing))) ≡ v)
    × TellsNext (offset_commit_work before.0 q name (offset_commit_partition_value (e.partition, (e.offset, (option_map (λ bytes. bytes.now) e.metadata, nothing))))) before r after
    → TellsNext (offset_commit_work before.0 q name (offset_commit_partition_value v)) before r after
offset_commit_tells q before name v r after said = subst (λ w. TellsNext (offset_commit_work before.0 q name (offset_commit_partition_value w)) before r after) said.1 said.2

parts : (count topics : List ℕ) → (count ++ topics) ++ [] ≡ (count ++ []) ++ topics
parts count topics = simp (append_assoc, append-nil {A = ℕ})

pub offset_commit_sends : (n : ℤ) (ts : List (TopicOf CommittedPartition))
    → Some (framed (be size32 n ++ (elements (topic_bytes committed_partition_bytes) ts ++ []))) ≡ Some (response n offset_commit_response (offset_commit_value ts))
unfolding encoded
offset_commit_sends n ts = ap (λ fields. Some (framed (be size32 n ++ fields))) (parts (be size32 (pos (length ts))) (flat_map (topic_bytes committed_partition_bytes) ts) ∙ sym (offset_commit_parts ts))
