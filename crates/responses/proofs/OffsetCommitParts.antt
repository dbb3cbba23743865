-- The parts of an OffsetCommit response, one after the other, are the encoding of its fields.
use Rattle.std.proofs.Common.{◌≡◌, List, ◌++◌, length, refl, ◌∙◌, append-nil}
use Rattle.std.specs.List.{flat_map}
use Rattle.responses.specs.declared.offset_commit.partition.CommittedPartition.{CommittedPartition}
use Rattle.frame_fields.specs.Fields.{encoded}
use Rattle.frame_fields.specs.Types.{TopicOf}
use Rattle.responses.specs.Responses.{topic_bytes}
use Rattle.responses.specs.OffsetCommit.{offset_commit_response, offset_commit_value, offset_commit_head, committed_partition_fields, committed_partition_value, committed_partition_bytes}
use Rattle.responses.proofs.ResponseParts.{topics_are}

pub offset_commit_parts : (ts : List (TopicOf CommittedPartition)) → encoded offset_commit_response (offset_commit_value ts) ≡ offset_commit_head (length ts) ++ flat_map (topic_bytes committed_partition_bytes) ts
unfolding encoded
offset_commit_parts ts = append-nil _ ∙ topics_are committed_partition_fields committed_partition_value committed_partition_bytes (λ p. refl) ts
