-- Deliver, version 0, a request of this project's own: its fields, and what it says. The types are those of Kafka's
-- documentation, "Protocol Guide", section "Protocol Primitive Types".
use Rattle.std.specs.Prelude.{ℕ, ℤ, List}
use Rattle.request_frames.specs.declared.deliver.DeliverRequest.{DeliverRequest}
use Rattle.frame_fields.specs.Fields.{Fields, end, Value}
use Rattle.frame_fields.specs.Types.{int32, string, bytes, ◌⨾◌}

-- ---- its fields

-- topic, partition, batch
abbrev pub deliver_fields : Fields
deliver_fields = string ⨾ int32 ⨾ bytes ⨾ end

-- ---- what it says

pub record DeliverValue : Type 0 where
  pub topic : List ℕ
  pub partition : ℤ
  pub batch : List ℕ

-- ---- from the fields' values, which are nested pairs

abbrev pub deliver_request : Value deliver_fields → DeliverValue
deliver_request v = record { topic = v.0; partition = v.1.0; batch = v.1.1.0 }

-- ---- apart from where its bytes lie

abbrev pub deliver_view : DeliverRequest → DeliverValue
deliver_view r = record { topic = r.topic.now; partition = r.partition; batch = r.batch.now }
