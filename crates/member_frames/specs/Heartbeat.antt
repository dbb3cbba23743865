-- Heartbeat, versions 0 and 1: its fields, and what it says. Kafka's documentation, "Protocol Guide", section "The
-- Messages".
use Rattle.std.specs.Prelude.{ℕ, ℤ, List}
use Rattle.member_frames.specs.declared.heartbeat.HeartbeatRequest.{HeartbeatRequest}
use Rattle.frame_fields.specs.Fields.{Fields, end, Value}
use Rattle.frame_fields.specs.Types.{int32, string, ◌⨾◌}

-- ---- its fields

-- group_id, generation_id, member_id
abbrev pub heartbeat_fields : Fields
heartbeat_fields = string ⨾ int32 ⨾ string ⨾ end

-- ---- what it says

pub record HeartbeatValue : Type 0 where
  pub group : List ℕ
  pub generation : ℤ
  pub member : List ℕ

-- ---- from the fields' values, which are nested pairs

abbrev pub heartbeat_request : Value heartbeat_fields → HeartbeatValue
heartbeat_request v = record { group = v.0; generation = v.1.0; member = v.1.1.0 }

-- ---- apart from where its bytes lie

abbrev pub heartbeat_view : HeartbeatRequest → HeartbeatValue
heartbeat_view r = record { group = r.group.now; generation = r.generation; member = r.member.now }
