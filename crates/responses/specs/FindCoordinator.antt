-- The response to FindCoordinator, version 0: its fields, the values that these take, and the parts in which they are
-- written. Kafka's documentation, "Protocol Guide", section "The Messages".
use Rattle.std.specs.Prelude.{ℕ, ℤ, pos, List}
use Rattle.frame_fields.specs.Fields.{Fields, end, Value, encoded}
use Rattle.frame_fields.specs.Types.{int16, int32, string, ◌⨾◌}

-- error code, node id, host, port
abbrev pub find_coordinator_response : Fields
find_coordinator_response = int16 ⨾ int32 ⨾ string ⨾ int32 ⨾ end

pub record CoordinatorAnswer : Type 0 where
  pub code : ℤ
  pub node_id : ℤ
  pub host : List ℕ
  pub port : ℤ

abbrev pub find_coordinator_value : CoordinatorAnswer → Value find_coordinator_response
find_coordinator_value a = (a.code, (a.node_id, (a.host, (a.port, tt))))

-- before the host: error code, node id, the number of the host's bytes
abbrev pub find_coordinator_head_bytes : (code node_id : ℤ) (size : ℕ) → List ℕ
find_coordinator_head_bytes code node_id size = encoded (int16 ⨾ int32 ⨾ int16 ⨾ end) (code, (node_id, (pos size, tt)))

-- after the host: the port
abbrev pub find_coordinator_port_bytes : (port : ℤ) → List ℕ
find_coordinator_port_bytes port = encoded (int32 ⨾ end) (port, tt)
