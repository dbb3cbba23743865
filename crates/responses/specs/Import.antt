-- The response to Import, versions 0 and 1, a request of this project's own: its fields, and the values that these
-- take. The types are those of Kafka's documentation, "Protocol Guide", section "Protocol Primitive Types".
use Rattle.responses.specs.declared.import.ImportAnswer.{ImportAnswer}
use Rattle.frame_fields.specs.Fields.{Fields, end, Value}
use Rattle.frame_fields.specs.Types.{int16, ◌⨾◌}

-- error code
abbrev pub import_response : Fields
import_response = int16 ⨾ end

abbrev pub import_value : ImportAnswer → Value import_response
import_value a = (a.code, tt)
