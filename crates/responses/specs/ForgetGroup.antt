-- The response to ForgetGroup, version 0, a request of this project's own: its fields, and the values that these take.
-- The types are those of Kafka's documentation, "Protocol Guide", section "Protocol Primitive Types".
use Rattle.responses.specs.declared.forget_group.ForgetGroupAnswer.{ForgetGroupAnswer}
use Rattle.frame_fields.specs.Fields.{Fields, end, Value}
use Rattle.frame_fields.specs.Types.{int16, int32, ◌⨾◌}

-- error code, and how many keys were forgotten
abbrev pub forget_group_response : Fields
forget_group_response = int16 ⨾ int32 ⨾ end

abbrev pub forget_group_value : ForgetGroupAnswer → Value forget_group_response
forget_group_value a = (a.code, (a.count, tt))
