-- The printed form of a table: a line for each row, in plain ASCII.
use Rattle.std.specs.Prelude.{◌≡◌, ◌≢◌, ℕ, ◌+◌, ◌/◌, ◌%◌, Bool, ◌&&◌, not, nat_le, nat_lt, ◌==◌, All, List, [], ◌∷◌, ◌++◌, if◌then◌else◌}
use Rattle.std.specs.List.{flat_map}

-- a byte that stands for itself: 0x21 to 0x7e, but for `%` and `=`
abbrev pub is_unescaped : ℕ → Bool
is_unescaped b = nat_le 0x21 b && nat_le b 0x7e && not (b == 0x25) && not (b == 0x3d)

-- the character of a digit below sixteen: `0` to `9`, then `A` to `F`
abbrev pub hex_digit : ℕ → ℕ
hex_digit d = if nat_lt d 10 then 0x30 + d else 0x37 + d

-- an unescaped byte as it is, any other as `%` and two hexadecimal digits
abbrev pub printed_byte : ℕ → List ℕ
printed_byte b =
    if is_unescaped b then b ∷ [] else 0x25 ∷ hex_digit (b / 16) ∷ hex_digit (b % 16) ∷ []

-- each byte in its printed form
abbrev pub printed : List ℕ → List ℕ
printed bytes = flat_map printed_byte bytes

-- a key and its value: the printed key, `=`, the printed value and a line feed
abbrev pub line : List ℕ × List ℕ → List ℕ
line row = printed row.0 ++ 0x3d ∷ printed row.1 ++ 10 ∷ []

-- a line for each row
abbrev pub lines : List (List ℕ × List ℕ) → List ℕ
lines rows = flat_map line rows

-- a line feed ends these bytes, and stands nowhere else in them
abbrev pub EndsOnce : List ℕ → Type 0
EndsOnce bytes = (front : List ℕ) × (bytes ≡ front ++ 10 ∷ []) × All (λ byte. byte ≢ 10) front
