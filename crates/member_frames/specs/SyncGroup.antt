-- SyncGroup, versions 0 and 1: its fields, and what it says. Kafka's documentation, "Protocol Guide", section "The
-- Messages".
use Rattle.std.specs.Prelude.{ℕ, ℤ, List, map}
use Rattle.member_frames.specs.declared.sync_group.request.SyncGroupRequest.{SyncGroupRequest}
use Rattle.frame_fields.specs.Fields.{Fields, end, array, Value}
use Rattle.frame_fields.specs.Types.{int32, string, bytes, ◌⨾◌}
use Rattle.frame_fields.specs.Arrays.{values}

-- ---- its fields

-- member_id, assignment
abbrev pub part_fields : Fields
part_fields = string ⨾ bytes ⨾ end

-- group_id, generation_id, member_id, assignments
abbrev pub sync_group_fields : Fields
sync_group_fields = string ⨾ int32 ⨾ string ⨾ array part_fields end

-- ---- what it says

pub record PartValue : Type 0 where
  pub id : List ℕ
  pub part : List ℕ

pub record SyncGroupValue : Type 0 where
  pub group : List ℕ
  pub generation : ℤ
  pub member : List ℕ
  pub parts : List PartValue

-- ---- from the fields' values, which are nested pairs

abbrev pub part_value : Value part_fields → PartValue
part_value p = record { id = p.0; part = p.1.0 }

abbrev pub sync_group_request : Value sync_group_fields → SyncGroupValue
sync_group_request v = record {
  group = v.0;
  generation = v.1.0;
  member = v.1.1.0;
  parts = map part_value v.1.1.1.0;
}

-- ---- apart from where its bytes lie

abbrev pub sync_group_view : SyncGroupRequest → SyncGroupValue
sync_group_view r = record {
  group = r.group.now;
  generation = r.generation;
  member = r.member.now;
  parts = map part_value (values part_fields r.parts);
}
