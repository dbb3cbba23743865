-- OffsetCommit, version 2: its fields, and what it says. Kafka's documentation, "Protocol Guide", section "The
-- Messages".
use Rattle.std.specs.Prelude.{ℕ, ℤ, List, map, Option}
use Rattle.request_frames.specs.declared.offset_commit.request.OffsetCommitRequest.{OffsetCommitRequest}
use Rattle.frame_fields.specs.Fields.{Fields, end, Value}
use Rattle.frame_fields.specs.Types.{int32, int64, string, nullable_string, topic, topics_of, TopicOf, ◌⨾◌, topic_request}
use Rattle.frame_fields.specs.Arrays.{values}

-- ---- its fields

-- partition, offset, metadata
abbrev pub offset_commit_partition : Fields
offset_commit_partition = int32 ⨾ int64 ⨾ nullable_string ⨾ end

-- group_id, generation_id, member_id, retention_time_ms, topics
abbrev pub offset_commit_fields : Fields
offset_commit_fields = string ⨾ int32 ⨾ string ⨾ int64 ⨾ topics_of offset_commit_partition end

-- ---- what it says

pub record OffsetCommitPartitionValue : Type 0 where
  pub partition : ℤ
  pub offset : ℤ
  pub metadata : Option (List ℕ)

pub record OffsetCommitValue : Type 0 where
  pub group : List ℕ
  pub generation : ℤ
  pub member : List ℕ
  pub topics : List (TopicOf OffsetCommitPartitionValue)

-- ---- from the fields' values, which are nested pairs

abbrev pub offset_commit_partition_value : Value offset_commit_partition → OffsetCommitPartitionValue
offset_commit_partition_value p = record { partition = p.0; offset = p.1.0; metadata = p.1.1.0 }

abbrev pub offset_commit_request : Value offset_commit_fields → OffsetCommitValue
offset_commit_request v = record {
  group = v.0;
  generation = v.1.0;
  member = v.1.1.0;
  topics = map (topic_request offset_commit_partition offset_commit_partition_value) v.1.1.1.1.0;
}

-- ---- apart from where its bytes lie

abbrev pub offset_commit_view : OffsetCommitRequest → OffsetCommitValue
offset_commit_view r = record {
  group = r.group.now;
  generation = r.generation;
  member = r.member.now;
  topics = map (topic_request offset_commit_partition offset_commit_partition_value) (values (topic offset_commit_partition) r.topics);
}
