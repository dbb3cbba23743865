-- JoinGroup, versions 0 to 2: its fields, and what it says. Kafka's documentation, "Protocol Guide", section "The
-- Messages".
use Rattle.std.specs.Prelude.{ℕ, ℤ, List, map}
use Rattle.member_frames.specs.declared.join_group.request.JoinGroupRequest.{JoinGroupRequest}
use Rattle.frame_fields.specs.Fields.{Fields, end, array, Value}
use Rattle.frame_fields.specs.Types.{int32, string, bytes, ◌⨾◌}
use Rattle.frame_fields.specs.Arrays.{values}

-- ---- its fields

-- name, metadata
abbrev pub protocol_fields : Fields
protocol_fields = string ⨾ bytes ⨾ end

-- group_id, session_timeout_ms, member_id, protocol_type, protocols
abbrev pub join_group_fields_0 : Fields
join_group_fields_0 = string ⨾ int32 ⨾ string ⨾ string ⨾ array protocol_fields end

-- From version 1 on: group_id, session_timeout_ms, rebalance_timeout_ms, member_id, protocol_type, protocols.
abbrev pub join_group_fields : Fields
join_group_fields = string ⨾ int32 ⨾ int32 ⨾ string ⨾ string ⨾ array protocol_fields end

-- ---- what it says

pub record ProtocolValue : Type 0 where
  pub name : List ℕ
  pub metadata : List ℕ

pub record JoinGroupValue : Type 0 where
  pub group : List ℕ
  pub session : ℤ
  pub rebalance : ℤ
  pub member : List ℕ
  pub kind : List ℕ
  pub protocols : List ProtocolValue

-- ---- from the fields' values, which are nested pairs

abbrev pub protocol_value : Value protocol_fields → ProtocolValue
protocol_value p = record { name = p.0; metadata = p.1.0 }

-- In version 0 the session timeout is the rebalance timeout too.
abbrev pub join_group_request_0 : Value join_group_fields_0 → JoinGroupValue
join_group_request_0 v = record {
  group = v.0;
  session = v.1.0;
  rebalance = v.1.0;
  member = v.1.1.0;
  kind = v.1.1.1.0;
  protocols = map protocol_value v.1.1.1.1.0;
}

abbrev pub join_group_request : Value join_group_fields → JoinGroupValue
join_group_request v = record {
  group = v.0;
  session = v.1.0;
  rebalance = v.1.1.0;
  member = v.1.1.1.0;
  kind = v.1.1.1.1.0;
  protocols = map protocol_value v.1.1.1.1.1.0;
}

-- ---- apart from where its bytes lie

abbrev pub join_group_view : JoinGroupRequest → JoinGroupValue
join_group_view r = record {
  group = r.group.now;
  session = r.session;
  rebalance = r.rebalance;
  member = r.member.now;
  kind = r.kind.now;
  protocols = map protocol_value (values protocol_fields r.protocols);
}
