-- ForgetGroup, version 0, a request of this project's own: its fields, and what it says. The types are those of Kafka's
-- documentation, "Protocol Guide", section "Protocol Primitive Types".
use Rattle.std.specs.Prelude.{ℕ, List}
use Rattle.request_frames.specs.declared.forget_group.ForgetGroupRequest.{ForgetGroupRequest}
use Rattle.frame_fields.specs.Fields.{Fields, end, Value}
use Rattle.frame_fields.specs.Types.{string, ◌⨾◌}

-- ---- its fields

-- group_id
abbrev pub forget_group_fields : Fields
forget_group_fields = string ⨾ end

-- ---- from the fields' values, which are nested pairs

abbrev pub forget_group_request : Value forget_group_fields → List ℕ
forget_group_request v = v.0

-- ---- apart from where its bytes lie

abbrev pub forget_group_view : ForgetGroupRequest → List ℕ
forget_group_view r = r.group.now
