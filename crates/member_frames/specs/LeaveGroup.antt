-- LeaveGroup, versions 0 and 1: its fields, and what it says. Kafka's documentation, "Protocol Guide", section "The
-- Messages".
use Rattle.std.specs.Prelude.{ℕ, List}
use Rattle.member_frames.specs.declared.leave_group.LeaveGroupRequest.{LeaveGroupRequest}
use Rattle.frame_fields.specs.Fields.{Fields, end, Value}
use Rattle.frame_fields.specs.Types.{string, ◌⨾◌}

-- ---- its fields

-- group_id, member_id
abbrev pub leave_group_fields : Fields
leave_group_fields = string ⨾ string ⨾ end

-- ---- what it says

pub record LeaveGroupValue : Type 0 where
  pub group : List ℕ
  pub member : List ℕ

-- ---- from the fields' values, which are nested pairs

abbrev pub leave_group_request : Value leave_group_fields → LeaveGroupValue
leave_group_request v = record { group = v.0; member = v.1.0 }

-- ---- apart from where its bytes lie

abbrev pub leave_group_view : LeaveGroupRequest → LeaveGroupValue
leave_group_view r = record { group = r.group.now; member = r.member.now }
