-- Import, version 1, a request of this project's own: its fields, and what it says. The types are those of Kafka's
-- documentation, "Protocol Guide", section "Protocol Primitive Types".
use Rattle.std.specs.Prelude.{ℕ, ℤ, List}
use Rattle.request_frames.specs.declared.import_delta.ImportDeltaRequest.{ImportDeltaRequest}
use Rattle.frame_fields.specs.Fields.{Fields, end, Value}
use Rattle.frame_fields.specs.Types.{int32, string, bytes, ◌⨾◌}

-- ---- its fields

-- topic, partition, delta
abbrev pub import_delta_fields : Fields
import_delta_fields = string ⨾ int32 ⨾ bytes ⨾ end

-- ---- what it says

pub record ImportDeltaValue : Type 0 where
  pub topic : List ℕ
  pub partition : ℤ
  pub delta : List ℕ

-- ---- from the fields' values, which are nested pairs

abbrev pub import_delta_request : Value import_delta_fields → ImportDeltaValue
import_delta_request v = record { topic = v.0; partition = v.1.0; delta = v.1.1.0 }

-- ---- apart from where its bytes lie

abbrev pub import_delta_view : ImportDeltaRequest → ImportDeltaValue
import_delta_view r = record { topic = r.topic.now; partition = r.partition; delta = r.delta.now }
