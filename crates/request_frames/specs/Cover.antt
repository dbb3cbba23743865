-- Cover, version 0, a request of this project's own: its fields, and what it says. The types are those of Kafka's
-- documentation, "Protocol Guide", section "Protocol Primitive Types".
use Rattle.std.specs.Prelude.{ℕ, ℤ, List}
use Rattle.request_frames.specs.declared.cover.CoverRequest.{CoverRequest}
use Rattle.frame_fields.specs.Fields.{Fields, end, Value}
use Rattle.frame_fields.specs.Types.{int32, string, ◌⨾◌}

-- ---- its fields

-- topic, partition
abbrev pub cover_fields : Fields
cover_fields = string ⨾ int32 ⨾ end

-- ---- what it says

pub record CoverValue : Type 0 where
  pub topic : List ℕ
  pub partition : ℤ

-- ---- from the fields' values, which are nested pairs

abbrev pub cover_request : Value cover_fields → CoverValue
cover_request v = record { topic = v.0; partition = v.1.0 }

-- ---- apart from where its bytes lie

abbrev pub cover_view : CoverRequest → CoverValue
cover_view r = record { topic = r.topic.now; partition = r.partition }
