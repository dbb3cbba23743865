-- What stands at a byte offset of a journal, seen by its first bytes alone: a group, or the journal's head. The form is this
-- project's own, as the journal's layout has it.
use Rattle.std.specs.Prelude.{ℕ, ℤ, pos, ◌+◌, ◌-◌, ◌^◌, ◌&&◌, min, nat_eq, int_lt, unsigned_abs, Option, Some, None, Ok, Err, Bool, if◌then◌else◌}
use Rattle.std.specs.Int.{w32, cast_unsigned}
use Rattle.std.specs.Ordering.{int_eq}
use Rattle.frame_fields.specs.Fields.{Fields, Value, end}
use Rattle.frame_fields.specs.Types.{int32, int64, ◌⨾◌}
use Rattle.frame_fields.specs.Reading.{At}
use Rattle.cleaning_marks.specs.declared.place.GroupSeen.{GroupSeen}
use Rattle.journal.specs.declared.layout.TheConstants.{FRAMES_AT}
use Rattle.cleaning_marks.specs.Files.{from_int64}

-- what stands before a group's frames: the crc, the key, the group's own byte offset, what was synced, how many bytes of frames
-- follow
abbrev pub group_fields : Fields
group_fields = int32 ⨾ int64 ⨾ int64 ⨾ int64 ⨾ int32 ⨾ end

-- whether they are those of a group with this key at this offset
abbrev pub is_group_at : (key : ℤ) (at : ℕ) → Value group_fields → Bool
is_group_at key at v = int_eq v.1.0 key && (nat_eq (from_int64 v.1.1.0) at && int_lt (pos 0) v.1.1.1.1.0)

-- the group that begins there
abbrev pub seen_group : (key : ℤ) (at : ℕ) → At (Value group_fields) → Option GroupSeen
seen_group key at (Ok x) =
    if is_group_at key at x.0
    then Some (record {
      at = at;
      end = min (at + (FRAMES_AT + unsigned_abs x.0.1.1.1.1.0)) (2 ^ 64 - 1);
      crc = cast_unsigned w32 x.0.0;
    })
    else None
seen_group key at (Err e) = None

-- the head, behind which the first group begins there
abbrev pub seen_head : (start : ℕ) → At ℤ → Option GroupSeen
seen_head start (Ok x) = Some (record { at = 0; end = start; crc = cast_unsigned w32 x.0 })
seen_head start (Err e) = None
