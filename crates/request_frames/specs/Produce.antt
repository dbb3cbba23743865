-- Produce, version 3: its fields, and what it says. Kafka's documentation, "Protocol Guide", section "The Messages".
use Rattle.std.specs.Prelude.{ℕ, ℤ, List, map, Option}
use Rattle.std.specs.Option.{option_map}
use Rattle.request_frames.specs.declared.produce.request.ProduceRequest.{ProduceRequest}
use Rattle.frame_fields.specs.Fields.{Fields, end, Value}
use Rattle.frame_fields.specs.Types.{int16, int32, nullable_string, nullable_bytes, topic, topics_of, TopicOf, ◌⨾◌, topic_request, or_empty}
use Rattle.frame_fields.specs.Arrays.{values}

-- ---- its fields

-- index, records
abbrev pub produce_partition : Fields
produce_partition = int32 ⨾ nullable_bytes ⨾ end

-- transactional_id, acks, timeout_ms, topics
abbrev pub produce_fields : Fields
produce_fields = nullable_string ⨾ int16 ⨾ int32 ⨾ topics_of produce_partition end

-- ---- what it says

pub record ProducePartitionValue : Type 0 where
  pub index : ℤ
  pub records : List ℕ

pub record ProduceValue : Type 0 where
  pub transactional_id : Option (List ℕ)
  pub acks : ℤ
  pub topics : List (TopicOf ProducePartitionValue)

-- ---- from the fields' values, which are nested pairs

abbrev pub produce_partition_value : Value produce_partition → ProducePartitionValue
produce_partition_value p = record { index = p.0; records = or_empty p.1.0 }

abbrev pub produce_request : Value produce_fields → ProduceValue
produce_request v = record {
  transactional_id = v.0;
  acks = v.1.0;
  topics = map (topic_request produce_partition produce_partition_value) v.1.1.1.0;
}

-- ---- apart from where its bytes lie

abbrev pub produce_view : ProduceRequest → ProduceValue
produce_view r = record {
  transactional_id = option_map (λ bytes. bytes.now) r.transactional_id;
  acks = r.acks;
  topics = map (topic_request produce_partition produce_partition_value) (values (topic produce_partition) r.topics);
}
