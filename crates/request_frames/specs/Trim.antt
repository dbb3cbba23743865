-- Trim, version 0, a request of this project's own: its fields, and what it says. The types are those of Kafka's
-- documentation, "Protocol Guide", section "Protocol Primitive Types".
use Rattle.std.specs.Prelude.{ℕ, ℤ, List}
use Rattle.request_frames.specs.declared.trim.TrimRequest.{TrimRequest}
use Rattle.frame_fields.specs.Fields.{Fields, end, Value}
use Rattle.frame_fields.specs.Types.{int32, int64, string, ◌⨾◌}

-- ---- its fields

-- topic, partition, start
abbrev pub trim_fields : Fields
trim_fields = string ⨾ int32 ⨾ int64 ⨾ end

-- ---- what it says

pub record TrimValue : Type 0 where
  pub topic : List ℕ
  pub partition : ℤ
  pub start : ℤ

-- ---- from the fields' values, which are nested pairs

abbrev pub trim_request : Value trim_fields → TrimValue
trim_request v = record { topic = v.0; partition = v.1.0; start = v.1.1.0 }

-- ---- apart from where its bytes lie

abbrev pub trim_view : TrimRequest → TrimValue
trim_view r = record { topic = r.topic.now; partition = r.partition; start = r.start }
