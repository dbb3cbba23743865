-- Fetch, version 4: its fields, and what it says. Kafka's documentation, "Protocol Guide", section "The Messages".
use Rattle.std.specs.Prelude.{ℤ, List, map}
use Rattle.request_frames.specs.declared.fetch.request.FetchRequest.{FetchRequest}
use Rattle.frame_fields.specs.Fields.{Fields, end, Value}
use Rattle.frame_fields.specs.Types.{int8, int32, int64, topic, topics_of, TopicOf, ◌⨾◌, topic_request}
use Rattle.frame_fields.specs.Arrays.{values}

-- ---- its fields

-- partition, fetch_offset, partition_max_bytes
abbrev pub fetch_partition : Fields
fetch_partition = int32 ⨾ int64 ⨾ int32 ⨾ end

-- replica_id, max_wait_ms, min_bytes, max_bytes, isolation_level, topics
abbrev pub fetch_fields : Fields
fetch_fields = int32 ⨾ int32 ⨾ int32 ⨾ int32 ⨾ int8 ⨾ topics_of fetch_partition end

-- ---- what it says

pub record FetchPartitionValue : Type 0 where
  pub partition : ℤ
  pub offset : ℤ
  pub max_bytes : ℤ

-- How long the request may wait, in milliseconds, and for how many bytes of records, concerns nobody who answers it.
pub record FetchValue : Type 0 where
  pub max_wait_ms : ℤ
  pub min_bytes : ℤ
  pub max_bytes : ℤ
  pub topics : List (TopicOf FetchPartitionValue)

-- ---- from the fields' values, which are nested pairs

abbrev pub fetch_partition_value : Value fetch_partition → FetchPartitionValue
fetch_partition_value p = record { partition = p.0; offset = p.1.0; max_bytes = p.1.1.0 }

abbrev pub fetch_request : Value fetch_fields → FetchValue
fetch_request v = record {
  max_wait_ms = v.1.0;
  min_bytes = v.1.1.0;
  max_bytes = v.1.1.1.0;
  topics = map (topic_request fetch_partition fetch_partition_value) v.1.1.1.1.1.0;
}

-- ---- apart from where its bytes lie

abbrev pub fetch_view : FetchRequest → FetchValue
fetch_view r = record {
  max_wait_ms = r.max_wait_ms;
  min_bytes = r.min_bytes;
  max_bytes = r.max_bytes;
  topics = map (topic_request fetch_partition fetch_partition_value) (values (topic fetch_partition) r.topics);
}
