-- Ids of different numbers differ.
use Rattle.std.proofs.Common.{◌≡◌, ℕ, zero, suc, ◌+◌, ◌-◌, ◌*◌, ◌/◌, ◌%◌, ◌^◌, ◌<◌, nat_lt, Bool, true, false, cond, List, [], ◌∷◌, ◌++◌, length, drop, refl, sym, ap, ◌∙◌, arith}
use Rattle.std.specs.Prelude.{if◌then◌else◌}
use Rattle.std.proofs.lemmas.List.{length-append}
use Rattle.group_coordinator.specs.Members.{hex, hex_digit, client_name, member_id}

abbrev digit : ℕ → ℕ
digit c = if nat_lt c 58 then c - 48 else c - 87

abbrev read : ℕ → List ℕ → ℕ
read a [] = a
read a (c ∷ cs) = read (a * 16 + digit c) cs

read_last : (a : ℕ) (cs : List ℕ) (c : ℕ) → read a (cs ++ c ∷ []) ≡ read a cs * 16 + digit c
read_last a [] c = refl
read_last a (x ∷ cs) c = read_last (a * 16 + digit x) cs c

digit_of : (d : ℕ) → d < 16 → digit (hex_digit d) ≡ d
digit_of d low = by (nat_lt d 10) refl where
  by : (b : Bool) → nat_lt d 10 ≡ b → digit (cond b (48 + d) (87 + d)) ≡ d
  by true e = grind (arith, e)
  by false e = grind (arith, e, low)

within : (p n : ℕ) → n < p * 16 → n / 16 < p
within p n low = omega (arith, low)

read_hex : (w n : ℕ) → n < 16 ^ w → read 0 (hex w n) ≡ n
read_hex zero n low = omega (arith, low)
read_hex (suc w) n low =
    let power : 16 ^ suc w ≡ 16 ^ w * 16 = omega arith in
    let here = read_hex w (n / 16) (within (16 ^ w) n (omega (arith, low, power))) in
    let last = digit_of (n % 16) (omega arith) in
    read_last 0 (hex w (n / 16)) (hex_digit (n % 16)) ∙ omega (arith, here, last)

length_hex : (w n : ℕ) → length (hex w n) ≡ w
length_hex zero n = refl
length_hex (suc w) n = length-append (hex w (n / 16)) (hex_digit (n % 16) ∷ []) ∙ omega (arith, length_hex w (n / 16))

-- the digits of its number
abbrev pub number_part : List ℕ → List ℕ
number_part id = drop (length id - 16) id

dropped : (xs ys : List ℕ) → drop (length xs) (xs ++ ys) ≡ ys
dropped [] ys = refl
dropped (x ∷ xs) ys = dropped xs ys

part_of_append : (xs : List ℕ) (n : ℕ) → number_part (xs ++ hex 16 n) ≡ hex 16 n
part_of_append xs n =
    let long : length (xs ++ hex 16 n) - 16 ≡ length xs = omega (arith, length-append xs (hex 16 n), length_hex 16 n) in
    (λ i. drop (long i) (xs ++ hex 16 n)) ∙ dropped xs (hex 16 n)

grouped : (c : List ℕ) (s : List ℕ) (h : List ℕ) → c ++ 45 ∷ (s ++ 45 ∷ h) ≡ (c ++ 45 ∷ (s ++ 45 ∷ [])) ++ h
grouped [] s h = λ i. 45 ∷ inner s i where
  inner : (s : List ℕ) → s ++ 45 ∷ h ≡ (s ++ 45 ∷ []) ++ h
  inner [] = refl
  inner (x ∷ s) = λ i. x ∷ inner s i
grouped (x ∷ c) s h = λ i. x ∷ grouped c s h i

pub part_of_id : (client : List ℕ) (start n : ℕ) → number_part (member_id client start n) ≡ hex 16 n
part_of_id client start n = ap number_part (grouped (client_name client) (hex 16 start) (hex 16 n)) ∙ part_of_append (client_name client ++ 45 ∷ (hex 16 start ++ 45 ∷ [])) n

pub same_number : (n k : ℕ) → n < 2 ^ 64 → k < 2 ^ 64 → hex 16 n ≡ hex 16 k → n ≡ k
same_number n k a b e = sym (read_hex 16 n (omega (arith, a))) ∙ ap (read 0) e ∙ read_hex 16 k (omega (arith, b))
