-- The response to OffsetCommit, version 2: its fields, the values that these take, and the parts in which they are
-- written. Kafka's documentation, "Protocol Guide", section "The Messages".
use Rattle.std.specs.Prelude.{ℕ, List}
use Rattle.responses.specs.declared.offset_commit.partition.CommittedPartition.{CommittedPartition}
use Rattle.frame_fields.specs.Fields.{Fields, end, Value, encoded}
use Rattle.frame_fields.specs.Types.{TopicOf, int16, int32, ◌⨾◌, topics_of}
use Rattle.responses.specs.Responses.{count_bytes, topic_values}

-- a partition: index, error code
abbrev pub committed_partition_fields : Fields
committed_partition_fields = int32 ⨾ int16 ⨾ end

-- topics
abbrev pub offset_commit_response : Fields
offset_commit_response = topics_of committed_partition_fields end

abbrev pub committed_partition_value : CommittedPartition → Value committed_partition_fields
committed_partition_value p = (p.index, (p.code, tt))

abbrev pub offset_commit_value : List (TopicOf CommittedPartition) → Value offset_commit_response
offset_commit_value ts = (topic_values committed_partition_fields committed_partition_value ts, tt)

-- before the topics: their count
abbrev pub offset_commit_head : (count : ℕ) → List ℕ
offset_commit_head count = count_bytes count

abbrev pub committed_partition_bytes : CommittedPartition → List ℕ
committed_partition_bytes p = encoded committed_partition_fields (committed_partition_value p)
