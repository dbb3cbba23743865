-- Get, version 0, a request of this project's own: its fields, and what it says. The types are those of Kafka's
-- documentation, "Protocol Guide", section "Protocol Primitive Types".
use Rattle.std.specs.Prelude.{ℕ, ℤ, List}
use Rattle.request_frames.specs.declared.get.GetRequest.{GetRequest}
use Rattle.frame_fields.specs.Fields.{Fields, end, Value}
use Rattle.frame_fields.specs.Types.{int32, string, bytes, ◌⨾◌}

-- ---- its fields

-- topic, partition, key
abbrev pub get_fields : Fields
get_fields = string ⨾ int32 ⨾ bytes ⨾ end

-- ---- what it says

pub record GetValue : Type 0 where
  pub topic : List ℕ
  pub partition : ℤ
  pub key : List ℕ

-- ---- from the fields' values, which are nested pairs

abbrev pub get_request : Value get_fields → GetValue
get_request v = record { topic = v.0; partition = v.1.0; key = v.1.1.0 }

-- ---- apart from where its bytes lie

abbrev pub get_view : GetRequest → GetValue
get_view r = record { topic = r.topic.now; partition = r.partition; key = r.key.now }
