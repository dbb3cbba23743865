-- One digit of a number that is read.
use Rattle.std.proofs.Common.{◌≡◌, ℕ, ◌+◌, ◌-◌, ◌*◌, ◌/◌, ◌%◌, ◌^◌, ◌<◌, ◌≤◌, List, ◌∷◌, drop, Ok, refl, ap, ◌∙◌, inl, inr, add-one, arith}
use Rattle.std.proofs.lemmas.Bool.{cases_lt}
use Rattle.std.proofs.lemmas.Nat.{pow-add, pow_below}
use Rattle.varint.specs.Reading.{number_at, IsGreatest}
use Rattle.varint.proofs.Encodings.{number_last, number_more}

pub number_digit : (limit b high used : ℕ) (bytes : List ℕ) → 128 ≤ limit → 128 ≤ b → 0 < high → number_at (limit / 128) bytes ≡ Ok (high, drop used bytes) → number_at limit (b ∷ bytes) ≡ Ok ((b - 128) + 128 * high, drop (used + 1) (b ∷ bytes))
number_digit limit b high used bytes large mark some e =
    rw add-one (number_more limit b high bytes (drop used bytes) large mark some e)

-- what is left of the greatest number of some bits without its lowest seven
pub limit_rest : (limit : ℕ) → IsGreatest limit → 128 ≤ limit → (limit % 128 ≡ 127) × IsGreatest (limit / 128)
limit_rest limit (bits, e) large =
    elim (cases_lt bits 7) [
      | inl few ↦ let small = pow_below bits 7 few in absurd (omega arith)
      | inr many ↦
          let whole : 2 ^ bits ≡ 2 ^ 7 * 2 ^ (bits - 7) = let k : bits ≡ 7 + (bits - 7) = omega arith in ap (λ (n : ℕ). 2 ^ n) k ∙ pow-add 2 7 (bits - 7) in
          (omega arith, (bits - 7, omega arith))
    ]

pub greatest32 : IsGreatest 0xffff_ffff
greatest32 = (32, refl)

pub greatest64 : IsGreatest 0xffff_ffff_ffff_ffff
greatest64 = (64, refl)

-- a number of two digits
pub number_two : (limit b c : ℕ) (bytes : List ℕ) → 16384 ≤ limit → 128 ≤ b → 0 < c → c < 128 → number_at limit (b ∷ c ∷ bytes) ≡ Ok ((b - 128) + 128 * c, bytes)
number_two limit b c bytes large mark some lt = number_more limit b c (c ∷ bytes) bytes (omega arith) mark some (number_last (limit / 128) c bytes lt (omega arith))
