-- The response to Get, version 0, a request of this project's own: its fields, the values that these take, and the
-- parts in which they are written. The types are those of Kafka's documentation, "Protocol Guide", section "Protocol
-- Primitive Types".
use Rattle.std.specs.Prelude.{ℕ, ℤ, List, Option}
use Rattle.frame_fields.specs.Fields.{Fields, end, Value, encoded}
use Rattle.frame_fields.specs.Types.{int16, int32, nullable_bytes, ◌⨾◌}
use Rattle.responses.specs.Responses.{length_or_null}

-- error code, value
abbrev pub get_response : Fields
get_response = int16 ⨾ nullable_bytes ⨾ end

abbrev pub get_value : (code : ℤ) (value : Option (List ℕ)) → Value get_response
get_value code value = (code, (value, tt))

-- before the value: the error code, the number of the value's bytes, -1 for null
abbrev pub get_head_bytes : (code : ℤ) (value : Option (List ℕ)) → List ℕ
get_head_bytes code value = encoded (int16 ⨾ int32 ⨾ end) (code, (length_or_null value, tt))
