-- The response to ListOffsets, version 1: its fields, the values that these take, and the parts in which they are
-- written. Kafka's documentation, "Protocol Guide", section "The Messages".
use Rattle.std.specs.Prelude.{ℕ, List}
use Rattle.responses.specs.declared.list_offsets.partition.ListedPartition.{ListedPartition}
use Rattle.frame_fields.specs.Fields.{Fields, end, Value, encoded}
use Rattle.frame_fields.specs.Types.{TopicOf, int16, int32, int64, ◌⨾◌, topics_of}
use Rattle.responses.specs.Responses.{count_bytes, topic_values}

-- a partition: index, error code, time, offset
abbrev pub list_offsets_answer_fields : Fields
list_offsets_answer_fields = int32 ⨾ int16 ⨾ int64 ⨾ int64 ⨾ end

-- topics
abbrev pub list_offsets_response : Fields
list_offsets_response = topics_of list_offsets_answer_fields end

abbrev pub list_offsets_answer_value : ListedPartition → Value list_offsets_answer_fields
list_offsets_answer_value p = (p.index, (p.code, (p.time, (p.offset, tt))))

abbrev pub list_offsets_value : List (TopicOf ListedPartition) → Value list_offsets_response
list_offsets_value ts = (topic_values list_offsets_answer_fields list_offsets_answer_value ts, tt)

-- before the topics: their count
abbrev pub list_offsets_head : (count : ℕ) → List ℕ
list_offsets_head count = count_bytes count

abbrev pub list_offsets_answer_bytes : ListedPartition → List ℕ
list_offsets_answer_bytes p = encoded list_offsets_answer_fields (list_offsets_answer_value p)
