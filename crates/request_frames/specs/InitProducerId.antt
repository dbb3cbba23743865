-- InitProducerId, version 0: its fields, and what it says. Kafka's documentation, "Protocol Guide", section "The
-- Messages".
use Rattle.std.specs.Prelude.{ℕ, List, Option}
use Rattle.std.specs.Option.{option_map}
use Rattle.request_frames.specs.declared.init_producer_id.InitProducerIdRequest.{InitProducerIdRequest}
use Rattle.frame_fields.specs.Fields.{Fields, end, Value}
use Rattle.frame_fields.specs.Types.{int32, nullable_string, ◌⨾◌}

-- ---- its fields

-- transactional_id, transaction_timeout_ms
abbrev pub init_producer_id_fields : Fields
init_producer_id_fields = nullable_string ⨾ int32 ⨾ end

-- ---- from the fields' values, which are nested pairs

-- the transactional id; the timeout is not used
abbrev pub init_producer_id_request : Value init_producer_id_fields → Option (List ℕ)
init_producer_id_request v = v.0

-- ---- apart from where its bytes lie

abbrev pub init_producer_id_view : InitProducerIdRequest → Option (List ℕ)
init_producer_id_view r = option_map (λ bytes. bytes.now) r.transactional_id
