-- The response to Clean, version 0, a request of this project's own: its fields, and the values that these take. The
-- types are those of Kafka's documentation, "Protocol Guide", section "Protocol Primitive Types".
use Rattle.responses.specs.declared.clean.CleanAnswer.{CleanAnswer}
use Rattle.frame_fields.specs.Fields.{Fields, end, Value}
use Rattle.frame_fields.specs.Types.{int16, int64, ◌⨾◌}

-- error code, and how many records, tombstones and batches were removed
abbrev pub clean_response : Fields
clean_response = int16 ⨾ int64 ⨾ int64 ⨾ int64 ⨾ end

abbrev pub clean_value : CleanAnswer → Value clean_response
clean_value a = (a.code, (a.records, (a.tombstones, (a.batches, tt))))
