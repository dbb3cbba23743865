-- The response to Trim, version 0, a request of this project's own: its fields, and the values that these take. The
-- types are those of Kafka's documentation, "Protocol Guide", section "Protocol Primitive Types".
use Rattle.responses.specs.declared.trim.TrimAnswer.{TrimAnswer}
use Rattle.frame_fields.specs.Fields.{Fields, end, Value}
use Rattle.frame_fields.specs.Types.{int16, ◌⨾◌}

-- error code
abbrev pub trim_response : Fields
trim_response = int16 ⨾ end

abbrev pub trim_value : TrimAnswer → Value trim_response
trim_value a = (a.code, tt)
