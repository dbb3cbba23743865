-- The response to Deliver, version 0, a request of this project's own: its fields, and the values that these take. The
-- types are those of Kafka's documentation, "Protocol Guide", section "Protocol Primitive Types".
use Rattle.responses.specs.declared.deliver.DeliverAnswer.{DeliverAnswer}
use Rattle.frame_fields.specs.Fields.{Fields, end, Value}
use Rattle.frame_fields.specs.Types.{int8, int16, flag, ◌⨾◌}

-- error code, whether the batch is a repeat
abbrev pub deliver_response : Fields
deliver_response = int16 ⨾ int8 ⨾ end

abbrev pub deliver_value : DeliverAnswer → Value deliver_response
deliver_value a = (a.code, (flag a.repeat, tt))
