-- The response to Cover, version 0, a request of this project's own: its fields, the values that these take, and the
-- parts in which they are written. The types are those of Kafka's documentation, "Protocol Guide", section "Protocol
-- Primitive Types".
use Rattle.std.specs.Prelude.{ℕ, ℤ, pos, List, map}
use Rattle.frame_fields.specs.Fields.{Fields, end, array, Value, encoded}
use Rattle.frame_fields.specs.Types.{int16, int32, int64, ◌⨾◌}

-- a run: its first and its last offset
abbrev pub cover_run_fields : Fields
cover_run_fields = int64 ⨾ int64 ⨾ end

-- error code, runs
abbrev pub cover_response : Fields
cover_response = int16 ⨾ array cover_run_fields end

abbrev pub cover_run_value : ℤ × ℤ → Value cover_run_fields
cover_run_value run = (run.0, (run.1, tt))

abbrev pub cover_value : (code : ℤ) (runs : List (ℤ × ℤ)) → Value cover_response
cover_value code runs = (code, (map cover_run_value runs, tt))

-- before the runs: the error code, their count
abbrev pub cover_head_bytes : (code : ℤ) (count : ℕ) → List ℕ
cover_head_bytes code count = encoded (int16 ⨾ int32 ⨾ end) (code, (pos count, tt))

abbrev pub cover_run_bytes : ℤ × ℤ → List ℕ
cover_run_bytes run = encoded cover_run_fields (cover_run_value run)
