-- Decimal numbers as they stand in a script.
use Rattle.std.specs.Prelude.{◌≡◌, ◌⊎◌, ℕ, ℤ, pos, neg_ℤ, List, ◌∷◌}
use Rattle.std.specs.Str.Parse.{IsNumeral, digits_value}

-- a word is decimal digits, at least one, behind a `-` or not, and says this number
abbrev pub IsNumber : List ℕ → ℤ → Type 0
IsNumber word n =
    (IsNumeral 10 word × (n ≡ pos (digits_value 10 word)))
    ⊎ ((digits : List ℕ) × (word ≡ 0x2d ∷ digits) × IsNumeral 10 digits × (n ≡ neg_ℤ (pos (digits_value 10 digits))))
