-- Export, version 1, a request of this project's own: its fields, and what it says. The types are those of Kafka's
-- documentation, "Protocol Guide", section "Protocol Primitive Types".
use Rattle.std.specs.Prelude.{ℕ, ℤ, List, map}
use Rattle.request_frames.specs.declared.export_delta.request.ExportDeltaRequest.{ExportDeltaRequest}
use Rattle.frame_fields.specs.Fields.{Fields, end, array, Value}
use Rattle.frame_fields.specs.Types.{int32, int64, string, ◌⨾◌}
use Rattle.frame_fields.specs.Arrays.{values}

-- ---- its fields

-- a range of offsets: its first and its last
abbrev pub asked_fields : Fields
asked_fields = int64 ⨾ int64 ⨾ end

-- topic, partition, asked ranges
abbrev pub export_delta_fields : Fields
export_delta_fields = string ⨾ int32 ⨾ array asked_fields end

-- ---- what it says

pub record ExportDeltaValue : Type 0 where
  pub topic : List ℕ
  pub partition : ℤ
  pub asked : List (ℤ × ℤ)

-- ---- from the fields' values, which are nested pairs

abbrev pub asked_range : Value asked_fields → ℤ × ℤ
asked_range r = (r.0, r.1.0)

abbrev pub export_delta_request : Value export_delta_fields → ExportDeltaValue
export_delta_request v = record { topic = v.0; partition = v.1.0; asked = map asked_range v.1.1.0 }

-- ---- apart from where its bytes lie

abbrev pub export_delta_view : ExportDeltaRequest → ExportDeltaValue
export_delta_view r = record {
  topic = r.topic.now;
  partition = r.partition;
  asked = map asked_range (values asked_fields r.asked);
}
