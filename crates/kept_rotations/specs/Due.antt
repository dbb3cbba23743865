-- When a snapshot is due. This project's own; Kafka's documentation has its like in "Configuration", section "Broker Configs",
-- metadata.log.max.record.bytes.between.snapshots. Sizes are bytes, times milliseconds.
use Rattle.std.specs.Prelude.{ℕ, ◌+◌, ◌*◌, ◌-◌, ◌^◌, ◌&&◌, ◌||◌, min, nat_le, nat_lt, Bool, false, Option, Some, None, if◌then◌else◌}
use Rattle.journal.specs.declared.layout.TheConstants.{HEAD_SIZE}
use Rattle.kept_rotations.specs.declared.rotation.TheConstants.{PATIENCE}
use Rattle.kept_rotations.specs.declared.timing.Retry.{Retry}
use Rattle.kept_rotations.specs.declared.timing.Timing.{Timing}

-- nothing was tried yet, or told
abbrev pub new_timing : (most : ℕ) → Timing
new_timing most = record { most = most; retry = None; told = None }

-- whether the journals behind the last snapshot have so many bytes, and as many as that one
abbrev pub is_grown : (most last journals : ℕ) → Bool
is_grown most last journals = nat_le most journals && nat_le last journals

-- Whether the last snapshot and the journals behind it have more than so many bytes, and more than twice what would stand there behind
-- a snapshot that is taken now: that one, as it was told, and the head of a journal.
abbrev pub is_wide : (most last journals : ℕ) (told : Option ℕ) → Bool
is_wide most last journals None = false
is_wide most last journals (Some now) = nat_lt most (last + journals) && nat_lt (2 * (now + HEAD_SIZE)) (last + journals)

abbrev pub is_due : Timing → (last journals : ℕ) → Bool
is_due t last journals = is_grown t.most last journals || is_wide t.most last journals t.told

-- when one that is due is tried: at once, but later behind one that wasn't taken, until the journals have grown much
abbrev pub tried_at : (journals : ℕ) → Option Retry → ℕ
tried_at journals None = 0
tried_at journals (Some r) = if nat_lt journals r.size then r.clock else 0

-- what the clock says once one is to be taken, if one is due
abbrev pub snapshot_due_at : Timing → (last journals : ℕ) → Option ℕ
snapshot_due_at t last journals = if is_due t last journals then Some (tried_at journals t.retry) else None

-- one wasn't taken at this time
abbrev pub missed_timing : (journals clock : ℕ) → Timing → Timing
missed_timing journals clock t = record t {
  retry = Some (record { size = min (journals + t.most) (2 ^ 64 - 1); clock = min (clock + PATIENCE) (2 ^ 64 - 1) });
}
