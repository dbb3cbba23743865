-- The response to OffsetFetch, version 1: its fields, the values that these take, and the parts in which they are
-- written. Kafka's documentation, "Protocol Guide", section "The Messages".
use Rattle.std.specs.Prelude.{ℕ, ℤ, List, Option}
use Rattle.frame_fields.specs.Fields.{Fields, end, Value, encoded}
use Rattle.frame_fields.specs.Types.{TopicOf, int16, int32, int64, nullable_string, ◌⨾◌, topics_of}
use Rattle.responses.specs.Responses.{count_bytes, topic_values}

-- a partition: index, committed offset, metadata, error code
abbrev pub fetched_offset_fields : Fields
fetched_offset_fields = int32 ⨾ int64 ⨾ nullable_string ⨾ int16 ⨾ end

-- topics
abbrev pub offset_fetch_response : Fields
offset_fetch_response = topics_of fetched_offset_fields end

-- the answer for a partition
pub record FetchedOffset : Type 0 where
  pub partition : ℤ
  pub offset : ℤ
  pub metadata : Option (List ℕ)
  pub code : ℤ

abbrev pub fetched_offset_value : FetchedOffset → Value fetched_offset_fields
fetched_offset_value p = (p.partition, (p.offset, (p.metadata, (p.code, tt))))

abbrev pub offset_fetch_value : List (TopicOf FetchedOffset) → Value offset_fetch_response
offset_fetch_value ts = (topic_values fetched_offset_fields fetched_offset_value ts, tt)

-- before the topics: their count
abbrev pub offset_fetch_head : (count : ℕ) → List ℕ
offset_fetch_head count = count_bytes count

abbrev pub fetched_offset_bytes : FetchedOffset → List ℕ
fetched_offset_bytes p = encoded fetched_offset_fields (fetched_offset_value p)
