-- The response to Export, versions 0 and 1, a request of this project's own: its fields, the values that these take,
-- and the parts in which they are written. The types are those of Kafka's documentation, "Protocol Guide", section
-- "Protocol Primitive Types".
use Rattle.std.specs.Prelude.{ℕ, ℤ, pos, List}
use Rattle.frame_fields.specs.Fields.{Fields, end, Value, encoded}
use Rattle.frame_fields.specs.Types.{int16, int32, bytes, ◌⨾◌}

-- error code, image or delta
abbrev pub export_response : Fields
export_response = int16 ⨾ bytes ⨾ end

abbrev pub export_value : (code : ℤ) (sent : List ℕ) → Value export_response
export_value code sent = (code, (sent, tt))

-- before the image or the delta: the error code, the number of its bytes
abbrev pub export_head_bytes : (code : ℤ) (size : ℕ) → List ℕ
export_head_bytes code size = encoded (int16 ⨾ int32 ⨾ end) (code, (pos size, tt))
