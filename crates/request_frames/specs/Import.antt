-- Import, version 0, a request of this project's own: its fields, and what it says. The types are those of Kafka's
-- documentation, "Protocol Guide", section "Protocol Primitive Types".
use Rattle.std.specs.Prelude.{ℕ, ℤ, List}
use Rattle.request_frames.specs.declared.import.ImportRequest.{ImportRequest}
use Rattle.frame_fields.specs.Fields.{Fields, end, Value}
use Rattle.frame_fields.specs.Types.{int32, string, bytes, ◌⨾◌}

-- ---- its fields

-- topic, partition, image
abbrev pub import_fields : Fields
import_fields = string ⨾ int32 ⨾ bytes ⨾ end

-- ---- what it says

pub record ImportValue : Type 0 where
  pub topic : List ℕ
  pub partition : ℤ
  pub image : List ℕ

-- ---- from the fields' values, which are nested pairs

abbrev pub import_request : Value import_fields → ImportValue
import_request v = record { topic = v.0; partition = v.1.0; image = v.1.1.0 }

-- ---- apart from where its bytes lie

abbrev pub import_view : ImportRequest → ImportValue
import_view r = record { topic = r.topic.now; partition = r.partition; image = r.image.now }
