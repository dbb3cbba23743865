-- Clean, version 0, a request of this project's own: its fields, and what it says. The types are those of Kafka's
-- documentation, "Protocol Guide", section "Protocol Primitive Types".
use Rattle.std.specs.Prelude.{ℕ, ℤ, List}
use Rattle.request_frames.specs.declared.clean.CleanRequest.{CleanRequest}
use Rattle.frame_fields.specs.Fields.{Fields, end, Value}
use Rattle.frame_fields.specs.Types.{int32, int64, string, ◌⨾◌}

-- ---- its fields

-- topic, partition, upto, tomb_before
abbrev pub clean_fields : Fields
clean_fields = string ⨾ int32 ⨾ int64 ⨾ int64 ⨾ end

-- ---- what it says

pub record CleanValue : Type 0 where
  pub topic : List ℕ
  pub partition : ℤ
  pub upto : ℤ
  pub tomb_before : ℤ

-- ---- from the fields' values, which are nested pairs

abbrev pub clean_request : Value clean_fields → CleanValue
clean_request v = record { topic = v.0; partition = v.1.0; upto = v.1.1.0; tomb_before = v.1.1.1.0 }

-- ---- apart from where its bytes lie

abbrev pub clean_view : CleanRequest → CleanValue
clean_view r = record { topic = r.topic.now; partition = r.partition; upto = r.upto; tomb_before = r.tomb_before }
