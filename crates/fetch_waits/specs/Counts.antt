-- What an entry's limit leaves.
use Rattle.std.specs.Prelude.{ℕ, ◌-◌, nat_le, Option, Some, None, if◌then◌else◌}

-- how many more bytes a limit allows; none where it allows fewer than are there
abbrev pub room_within : (limit bytes : ℕ) → Option ℕ
room_within limit bytes = if nat_le bytes limit then Some (limit - bytes) else None
