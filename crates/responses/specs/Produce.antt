-- The response to Produce, version 3: its fields, the values that these take, and the parts in which they are written.
-- Kafka's documentation, "Protocol Guide", section "The Messages". What is always answered with the same number stands
-- here as that number.
use Rattle.std.specs.Prelude.{ℕ, pos, negsuc, List}
use Rattle.responses.specs.declared.produce.partition.ProducedPartition.{ProducedPartition}
use Rattle.frame_fields.specs.Fields.{Fields, end, Value, encoded}
use Rattle.frame_fields.specs.Types.{TopicOf, int16, int32, int64, ◌⨾◌, topics_of}
use Rattle.responses.specs.Responses.{count_bytes, topic_values}

-- a partition: index, error code, base offset, log append time
abbrev pub produced_fields : Fields
produced_fields = int32 ⨾ int16 ⨾ int64 ⨾ int64 ⨾ end

-- topics, throttle time
abbrev pub produce_response : Fields
produce_response = topics_of produced_fields (int32 ⨾ end)

-- there is no log append time
abbrev pub produced_value : ProducedPartition → Value produced_fields
produced_value p = (p.index, (p.code, (p.base, (negsuc 0, tt))))

-- nothing is throttled
abbrev pub produce_value : List (TopicOf ProducedPartition) → Value produce_response
produce_value ts = (topic_values produced_fields produced_value ts, (pos 0, tt))

-- before the topics: their count
abbrev pub produce_head : (count : ℕ) → List ℕ
produce_head count = count_bytes count

abbrev pub produced_bytes : ProducedPartition → List ℕ
produced_bytes p = encoded produced_fields (produced_value p)

-- after the topics: the throttle time
abbrev pub produce_tail : List ℕ
produce_tail = encoded (int32 ⨾ end) (pos 0, tt)
