-- The response to InitProducerId, version 0: its fields, and the values that these take. Kafka's documentation,
-- "Protocol Guide", section "The Messages". What is always answered with the same number stands here as that number.
use Rattle.std.specs.Prelude.{pos}
use Rattle.responses.specs.declared.init_producer_id.InitProducerIdAnswer.{InitProducerIdAnswer}
use Rattle.frame_fields.specs.Fields.{Fields, end, Value}
use Rattle.frame_fields.specs.Types.{int16, int32, int64, ◌⨾◌}

-- throttle time, error code, producer id, producer epoch
abbrev pub init_producer_id_response : Fields
init_producer_id_response = int32 ⨾ int16 ⨾ int64 ⨾ int16 ⨾ end

-- nothing is throttled
abbrev pub init_producer_id_value : InitProducerIdAnswer → Value init_producer_id_response
init_producer_id_value a = (pos 0, (a.code, (a.producer_id, (a.epoch, tt))))
