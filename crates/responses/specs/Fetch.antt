-- The response to Fetch, version 4: its fields, the values that these take, and the parts in which they are written.
-- Kafka's documentation, "Protocol Guide", section "The Messages". What is always answered with the same number stands
-- here as that number.
use Rattle.std.specs.Prelude.{ℕ, pos, List, ◌++◌, length, None}
use Rattle.responses.specs.declared.fetch.partition.FetchedPartition.{FetchedPartition}
use Rattle.frame_fields.specs.Fields.{Field, Fields, end, array_or_null, FieldValue, Value, encoded}
use Rattle.frame_fields.specs.Types.{TopicOf, int16, int32, int64, bytes, ◌⨾◌, topics_of}
use Rattle.responses.specs.Responses.{topic_values}

-- a partition: index, error code, high watermark, last stable offset, aborted transactions, and its records, or their
-- length alone
abbrev pub fetched_fields : (last : Field) → Fields
fetched_fields last = int32 ⨾ int16 ⨾ int64 ⨾ int64 ⨾ array_or_null (int64 ⨾ int64 ⨾ end) (last ⨾ end)

-- throttle time, topics
abbrev pub fetch_response : Fields
fetch_response = int32 ⨾ topics_of (fetched_fields bytes) end

-- the answer for a partition, and the records' bytes
pub record Fetched : Type 0 where
  pub partition : FetchedPartition
  pub records : List ℕ

-- both offsets are the end, and aborted transactions are null
abbrev pub fetched_value : FetchedPartition → (last : Field) → FieldValue last → Value (fetched_fields last)
fetched_value p last v = (p.index, (p.code, (p.end, (p.end, (None, (v, tt))))))

-- nothing is throttled
abbrev pub fetch_value : List (TopicOf Fetched) → Value fetch_response
fetch_value ts = (pos 0, (topic_values (fetched_fields bytes) (λ p. fetched_value p.partition bytes p.records) ts, tt))

-- before the topics: the throttle time, their count
abbrev pub fetch_head : (count : ℕ) → List ℕ
fetch_head count = encoded (int32 ⨾ int32 ⨾ end) (pos 0, (pos count, tt))

-- before a partition's records
abbrev pub fetched_head : FetchedPartition → (size : ℕ) → List ℕ
fetched_head p size = encoded (fetched_fields int32) (fetched_value p int32 (pos size))

abbrev pub fetched_bytes : Fetched → List ℕ
fetched_bytes p = fetched_head p.partition (length p.records) ++ p.records
