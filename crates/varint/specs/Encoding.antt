-- A number as a varint (32 bits) or a varlong (64 bits): the zigzag number in digits of seven bits, the
-- lowest first, each but the last with the mark 128. Kafka's protocol guide, "Protocol Primitive Types".
use Rattle.std.specs.Prelude.{ℕ, zero, suc, ◌+◌, ◌*◌, ◌/◌, ◌%◌, ◌<◌, ℤ, pos, negsuc, List, [], ◌∷◌, nat_lt, if◌then◌else◌}

-- 0, -1, 1, -2 and so on are 0, 1, 2, 3 and so on
abbrev pub zigzag : ℤ → ℕ
zigzag (pos n) = 2 * n
zigzag (negsuc n) = 2 * n + 1

-- a number's digits, with marks; after the first digit come at most `more`
unfoldable pub digits : ℕ → ℕ → List ℕ
digits zero n = n ∷ []
digits (suc more) n = if nat_lt n 128 then n ∷ [] else (128 + n % 128) ∷ digits more (n / 128)

-- The one encoding of a number. Ten digits are enough for 64 bits.
unfoldable pub encoding : ℤ → List ℕ
encoding v = digits 9 (zigzag v)

-- what bytes stand for, the lowest first, a mark counting for nothing
abbrev pub digits_value : List ℕ → ℕ
digits_value [] = 0
digits_value (b ∷ bs) = b % 128 + 128 * digits_value bs

-- The mark stands on each byte but the last, and no byte could be left out: what follows the first is not 0.
abbrev pub IsShortest : List ℕ → Type 0
IsShortest [] = ⊥
IsShortest (b ∷ []) = b < 128
IsShortest (b ∷ c ∷ bs) = (127 < b) × (b < 256) × (0 < digits_value (c ∷ bs)) × IsShortest (c ∷ bs)
