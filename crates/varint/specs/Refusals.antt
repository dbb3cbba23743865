-- Why there is no number at the front of bytes. A byte has the mark where it is 128 or more: more digits follow.
-- Kafka's protocol guide, "Protocol Primitive Types", VARINT and VARLONG.
use Rattle.std.specs.Prelude.{◌≡◌, ℕ, ◌+◌, ◌-◌, ◌<◌, ◌≤◌, List, [], ◌∷◌, length, nat_lt, if◌then◌else◌, slice_index}

-- how many bytes at the front have the mark
abbrev pub marks : List ℕ → ℕ
marks [] = 0
marks (b ∷ bs) = if nat_lt b 128 then 0 else 1 + marks bs

-- The bytes end before the last digit: all have the mark, and there are fewer than a number may have.
abbrev pub IsShort : ℕ → List ℕ → Type 0
IsShort most bytes = (marks bytes ≡ length bytes) × (length bytes < most)

-- The last digit that a number may have is reached, and it is more than fits.
abbrev pub IsTooLong : ℕ → ℕ → List ℕ → Type 0
IsTooLong most top bytes =
    (most ≤ marks bytes + 1) × (most ≤ length bytes) × (top < slice_index bytes (most - 1))

-- Neither of these, and the last of several digits is 0.
abbrev pub IsNotShortest : ℕ → ℕ → List ℕ → Type 0
IsNotShortest most top bytes =
    ¬ IsTooLong most top bytes × (0 < marks bytes) × (marks bytes < length bytes)
    × (slice_index bytes (marks bytes) ≡ 0)
