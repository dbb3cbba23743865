-- ListOffsets, version 1: its fields, and what it says. Kafka's documentation, "Protocol Guide", section "The Messages".
use Rattle.std.specs.Prelude.{ℤ, List, map}
use Rattle.request_frames.specs.declared.list_offsets.request.ListOffsetsRequest.{ListOffsetsRequest}
use Rattle.frame_fields.specs.Fields.{Fields, end, Value}
use Rattle.frame_fields.specs.Types.{int32, int64, topic, topics_of, TopicOf, ◌⨾◌, topic_request}
use Rattle.frame_fields.specs.Arrays.{values}

-- ---- its fields

-- partition, timestamp
abbrev pub list_offsets_partition : Fields
list_offsets_partition = int32 ⨾ int64 ⨾ end

-- replica_id, topics
abbrev pub list_offsets_fields : Fields
list_offsets_fields = int32 ⨾ topics_of list_offsets_partition end

-- ---- what it says

pub record ListOffsetsPartitionValue : Type 0 where
  pub partition : ℤ
  pub time : ℤ

-- ---- from the fields' values, which are nested pairs

abbrev pub list_offsets_partition_value : Value list_offsets_partition → ListOffsetsPartitionValue
list_offsets_partition_value p = record { partition = p.0; time = p.1.0 }

abbrev pub list_offsets_request : Value list_offsets_fields → List (TopicOf ListOffsetsPartitionValue)
list_offsets_request v = map (topic_request list_offsets_partition list_offsets_partition_value) v.1.0

-- ---- apart from where its bytes lie

abbrev pub list_offsets_view : ListOffsetsRequest → List (TopicOf ListOffsetsPartitionValue)
list_offsets_view r = map (topic_request list_offsets_partition list_offsets_partition_value) (values (topic list_offsets_partition) r.topics)
