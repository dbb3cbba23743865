-- The digits of a number, one after the other.
use Rattle.std.proofs.Common.{◌≡◌, ℕ, zero, suc, ◌+◌, ◌-◌, ◌*◌, ◌/◌, ◌%◌, ◌^◌, ◌<◌, ◌≤◌, List, [], ◌∷◌, ◌++◌, length, take, set, sym, ap, ◌∙◌, inl, inr, add-one, append_assoc, arith}
use Rattle.std.proofs.Math.Seq.{take-suc-set}
use Rattle.std.proofs.lemmas.Bool.{cases_lt, lt-ltb}
use Rattle.std.proofs.lemmas.Nat.{pow-add}
use Rattle.std.specs.Prelude.{ℤ, FitsSigned}
use Rattle.std.specs.Int.{w32}
use Rattle.varint.specs.Encoding.{digits, encoding, zigzag}
use Rattle.varint.proofs.Encodings.{digits_last, digits_more, zigzag_fits32}

-- what is left of a number of 64 bits while its digits are taken
pub room : (used rest : ℕ) → used ≤ 9 → 128 ≤ rest → rest < 2 ^ (64 - 7 * used) → (used + 1 ≤ 9) × (rest / 128 < 2 ^ (64 - 7 * (used + 1)))
room used rest le large lt =
    elim (cases_lt used 9) [
      | inl below ↦
          let k : 64 - 7 * used ≡ 7 + (64 - 7 * (used + 1)) = omega arith in
          let whole : 2 ^ (64 - 7 * used) ≡ 2 ^ 7 * 2 ^ (64 - 7 * (used + 1)) = ap (λ (n : ℕ). 2 ^ n) k ∙ pow-add 2 7 (64 - 7 * (used + 1)) in
          (omega arith, omega arith)
      | inr above ↦
          let k : 64 - 7 * used ≡ 1 = omega arith in
          let two : 2 ^ (64 - 7 * used) ≡ 2 = ap (λ (n : ℕ). 2 ^ n) k in
          absurd (omega arith)
    ]

pub one_more : (used rest : ℕ) → used + 1 ≤ 9 → 128 ≤ rest → digits (9 - used) rest ≡ (128 + rest % 128) ∷ digits (9 - (used + 1)) (rest / 128)
one_more used rest le large =
    let k : 9 - used ≡ suc (9 - (used + 1)) = omega arith in
    ap (λ (more : ℕ). digits more rest) k ∙ digits_more (9 - (used + 1)) rest large

pub step : (bytes all : List ℕ) (used rest : ℕ) → used + 1 ≤ 9 → used < length bytes → 128 ≤ rest → take used bytes ++ digits (9 - used) rest ≡ all
    → take (used + 1) (set bytes used (128 + rest % 128)) ++ digits (9 - (used + 1)) (rest / 128) ≡ all
step bytes all used rest le inside large e =
    let front : take (used + 1) (set bytes used (128 + rest % 128)) ≡ take used bytes ++ (128 + rest % 128) ∷ [] = rw add-one (take-suc-set bytes used (128 + rest % 128) inside) in
    rw front (append_assoc (take used bytes) ((128 + rest % 128) ∷ []) (digits (9 - (used + 1)) (rest / 128)) ∙ ap (λ (x : List ℕ). take used bytes ++ x) (sym (one_more used rest le large)) ∙ e)

pub ends : (bytes all : List ℕ) (used rest : ℕ) → used < length bytes → rest < 128 → take used bytes ++ digits (9 - used) rest ≡ all → take (used + 1) (set bytes used rest) ≡ all
ends bytes all used rest inside lt e =
    let front : take (used + 1) (set bytes used rest) ≡ take used bytes ++ rest ∷ [] = rw add-one (take-suc-set bytes used rest inside) in
    front ∙ ap (λ (x : List ℕ). take used bytes ++ x) (sym (digits_last (9 - used) rest lt)) ∙ e

pub len_step : (used rest all : ℕ) → used + 1 ≤ 9 → 128 ≤ rest → used + length (digits (9 - used) rest) ≡ all → used + 1 + length (digits (9 - (used + 1)) (rest / 128)) ≡ all
len_step used rest all le large e = let more = ap length (one_more used rest le large) in omega arith

pub len_ends : (used rest all : ℕ) → rest < 128 → used + length (digits (9 - used) rest) ≡ all → used + 1 ≡ all
len_ends used rest all lt e = let last = ap length (digits_last (9 - used) rest lt) in omega arith

-- ---- how many digits there are at most

-- a number of one digit and at most `others` more
abbrev HasFew : ℕ → ℕ → Type 0
HasFew zero n = n < 128
HasFew (suc others) n = HasFew others (n / 128)

few : (others more n : ℕ) → HasFew others n → length (digits more n) ≤ others + 1
unfolding digits
few others zero n h = omega arith
few zero (suc more) n lt = rw (lt-ltb n 128 lt) (omega arith)
few (suc others) (suc more) n h =
    elim (cases_lt n 128) [
      | inl small ↦ let one = ap length (digits_last (suc more) n small) in omega arith
      | inr large ↦
          let rest = few others more (n / 128) h in
          let all = ap length (digits_more more n large) in
          omega arith
    ]

pub most : (n : ℕ) → n < 2 ^ 64 → length (digits 9 n) ≤ 10
most n lt = few 9 9 n (omega arith)

pub most_of_32_bits : (v : ℤ) → FitsSigned w32 v → length (encoding v) ≤ 5
unfolding encoding
most_of_32_bits v fits = let small = zigzag_fits32 v fits in few 4 9 (zigzag v) (omega arith)
