-- Clean, version 1, a request of this project's own: its fields, and what it says. The types are those of Kafka's
-- documentation, "Protocol Guide", section "Protocol Primitive Types".
use Rattle.std.specs.Prelude.{ℕ, ℤ, List}
use Rattle.request_frames.specs.declared.clean_part.CleanPartRequest.{CleanPartRequest}
use Rattle.frame_fields.specs.Fields.{Fields, end, Value}
use Rattle.frame_fields.specs.Types.{int32, int64, string, ◌⨾◌}

-- ---- its fields

-- topic, partition, from, to, upto, tomb_before
abbrev pub clean_part_fields : Fields
clean_part_fields = string ⨾ int32 ⨾ int64 ⨾ int64 ⨾ int64 ⨾ int64 ⨾ end

-- ---- what it says

pub record CleanPartValue : Type 0 where
  pub topic : List ℕ
  pub partition : ℤ
  pub from : ℤ
  pub to : ℤ
  pub upto : ℤ
  pub tomb_before : ℤ

-- ---- from the fields' values, which are nested pairs

abbrev pub clean_part_request : Value clean_part_fields → CleanPartValue
clean_part_request v = record {
  topic = v.0;
  partition = v.1.0;
  from = v.1.1.0;
  to = v.1.1.1.0;
  upto = v.1.1.1.1.0;
  tomb_before = v.1.1.1.1.1.0;
}

-- ---- apart from where its bytes lie

abbrev pub clean_part_view : CleanPartRequest → CleanPartValue
clean_part_view r = record {
  topic = r.topic.now;
  partition = r.partition;
  from = r.from;
  to = r.to;
  upto = r.upto;
  tomb_before = r.tomb_before;
}
