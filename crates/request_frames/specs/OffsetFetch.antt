-- OffsetFetch, version 1: its fields, and what it says. Kafka's documentation, "Protocol Guide", section "The
-- Messages".
use Rattle.std.specs.Prelude.{ℕ, ℤ, List, map}
use Rattle.request_frames.specs.declared.offset_fetch.request.OffsetFetchRequest.{OffsetFetchRequest}
use Rattle.frame_fields.specs.Fields.{Fields, end, Value}
use Rattle.frame_fields.specs.Types.{int32, string, topic, topics_of, TopicOf, ◌⨾◌, topic_request}
use Rattle.frame_fields.specs.Arrays.{values}

-- ---- its fields

-- partition
abbrev pub offset_fetch_partition : Fields
offset_fetch_partition = int32 ⨾ end

-- group_id, topics
abbrev pub offset_fetch_fields : Fields
offset_fetch_fields = string ⨾ topics_of offset_fetch_partition end

-- ---- what it says

pub record OffsetFetchPartitionValue : Type 0 where
  pub partition : ℤ

pub record OffsetFetchValue : Type 0 where
  pub group : List ℕ
  pub topics : List (TopicOf OffsetFetchPartitionValue)

-- ---- from the fields' values, which are nested pairs

abbrev pub offset_fetch_partition_value : Value offset_fetch_partition → OffsetFetchPartitionValue
offset_fetch_partition_value p = record { partition = p.0 }

abbrev pub offset_fetch_request : Value offset_fetch_fields → OffsetFetchValue
offset_fetch_request v = record {
  group = v.0;
  topics = map (topic_request offset_fetch_partition offset_fetch_partition_value) v.1.0;
}

-- ---- apart from where its bytes lie

abbrev pub offset_fetch_view : OffsetFetchRequest → OffsetFetchValue
offset_fetch_view r = record {
  group = r.group.now;
  topics = map (topic_request offset_fetch_partition offset_fetch_partition_value) (values (topic offset_fetch_partition) r.topics);
}
