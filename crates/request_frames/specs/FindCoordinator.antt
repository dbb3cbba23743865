-- FindCoordinator, version 0: its fields, and what it says. Kafka's documentation, "Protocol Guide", section "The
-- Messages".
use Rattle.std.specs.Prelude.{ℕ, List}
use Rattle.request_frames.specs.declared.find_coordinator.FindCoordinatorRequest.{FindCoordinatorRequest}
use Rattle.frame_fields.specs.Fields.{Fields, end, Value}
use Rattle.frame_fields.specs.Types.{string, ◌⨾◌}

-- ---- its fields

-- key: the group_id
abbrev pub find_coordinator_fields : Fields
find_coordinator_fields = string ⨾ end

-- ---- from the fields' values, which are nested pairs

abbrev pub find_coordinator_request : Value find_coordinator_fields → List ℕ
find_coordinator_request v = v.0

-- ---- apart from where its bytes lie

abbrev pub find_coordinator_view : FindCoordinatorRequest → List ℕ
find_coordinator_view r = r.group.now
