-- Bytes as a text says them: `%` and two hexadecimal digits, in either case, say a byte; every other byte says itself.
use Rattle.std.specs.Prelude.{◌≡◌, ◌⊎◌, ℕ, ◌+◌, ◌*◌, Bool, false, ◌&&◌, ◌||◌, ◌==◌, List, [], ◌∷◌, Option, Some, None, if◌then◌else◌}
use Rattle.std.specs.Option.{is_none}
use Rattle.std.specs.Char.{digit_value, is_digit}

-- the number that two hexadecimal digits at the front say
abbrev pub hex_pair : List ℕ → Option ℕ
hex_pair (high ∷ low ∷ rest) = if is_digit high 16 && is_digit low 16 then Some (digit_value high * 16 + digit_value low) else None
hex_pair _ = None

-- a `%` stands somewhere that two hexadecimal digits don't follow
abbrev pub has_bad_escape : List ℕ → Bool
has_bad_escape [] = false
has_bad_escape (c ∷ rest) = (c == 0x25 && is_none (hex_pair rest)) || has_bad_escape rest

-- an escape at the front says the byte, and the rest comes behind it
abbrev pub Escapes : List ℕ → ℕ → List ℕ → Type 0
Escapes text byte rest = (high low : ℕ) × (text ≡ 0x25 ∷ high ∷ low ∷ rest) × (hex_pair (high ∷ low ∷ rest) ≡ Some byte)

-- the byte at the front says itself, since no escape stands there
abbrev pub IsItself : List ℕ → ℕ → List ℕ → Type 0
IsItself text byte rest = (text ≡ byte ∷ rest) × ((other : ℕ) (behind : List ℕ) → Escapes text other behind → ⊥)

-- the text says these bytes, one after the other
abbrev pub Says : List ℕ → List ℕ → Type 0
Says text [] = text ≡ []
Says text (byte ∷ bytes) = (rest : List ℕ) × (Escapes text byte rest ⊎ IsItself text byte rest) × Says rest bytes
