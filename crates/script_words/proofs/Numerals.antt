-- A script's numbers are those that std's `parse` reads of texts without a `+`.
use Rattle.std.proofs.Common.{◌≡◌, ℕ, zero, suc, ◌==◌, Bool, true, false, pos, List, [], ◌∷◌, drop, refl, sym, ap, subst, ◌∙◌, inl, inr, arith}
use Rattle.std.specs.Prelude.{◌≢◌, ℤ, neg_ℤ, slice_index, cond, Result, Ok, Err, FitsSigned, MatchOption}
use Rattle.std.specs.Int.{Width}
use Rattle.std.specs.Result.{OkIff, result_ok}
use Rattle.std.specs.Str.{IsAscii, IsUtf8}
use Rattle.std.specs.Str.Parse.{AllDigits, IsNumeral, digits_value, without_leading_sign, without_leading_plus, signed_digits_value}
use Rattle.std.proofs.lemmas.Bool.{eqb-true, ne_eqb}
use Rattle.std.proofs.lemmas.Str.{IsUtf8-from_ascii}
use Rattle.std.proofs.lemmas.Str.Parse.{digit_from_value, without_leading_plus_none}
use Rattle.script_words.specs.Numbers.{IsNumber}

ascii_digits : (bs : List ℕ) → AllDigits 10 bs → IsAscii bs
ascii_digits [] all i = omega arith
ascii_digits (c ∷ cs) all zero = omega (arith, digit_from_value c all.0)
ascii_digits (c ∷ cs) all (suc i) = ascii_digits cs all.1 i

ascii_signed : (bs : List ℕ) → AllDigits 10 bs → IsAscii (0x2d ∷ bs)
ascii_signed bs all zero = omega arith
ascii_signed bs all (suc i) = ascii_digits bs all i

-- ---- from what `parse` reads

read_number : (bs : List ℕ) → slice_index bs 0 ≢ 43 → IsNumeral 10 (without_leading_sign bs) → IsNumber bs (signed_digits_value 10 bs)
read_number bs plus numeral = by bs plus numeral (slice_index bs 0 == 45) refl
  where
    behind_minus : (bs : List ℕ) → slice_index bs 0 ≡ 45 → bs ≡ 45 ∷ drop 1 bs
    behind_minus [] is = absurd (omega arith)
    behind_minus (c ∷ cs) is = ap (λ (x : ℕ). x ∷ cs) is

    by : (bs : List ℕ) → slice_index bs 0 ≢ 43 → IsNumeral 10 (without_leading_sign bs) → (b : Bool) → (slice_index bs 0 == 45) ≡ b → IsNumber bs (signed_digits_value 10 bs)
    by bs plus numeral true e =
        let rest : without_leading_sign bs ≡ drop 1 bs = ap (λ (t : Bool). cond t (drop 1 bs) (without_leading_plus bs)) e in
        let value : signed_digits_value 10 bs ≡ neg_ℤ (pos (digits_value 10 (drop 1 bs))) =
        ap (λ (t : Bool). cond t (neg_ℤ (pos (digits_value 10 (without_leading_sign bs)))) (pos (digits_value 10 (without_leading_sign bs)))) e
        ∙ ap (λ (ds : List ℕ). neg_ℤ (pos (digits_value 10 ds))) rest in
        inr (drop 1 bs, behind_minus bs (eqb-true _ 45 e), subst (IsNumeral 10) rest numeral, value)
    by bs plus numeral false e =
        let rest : without_leading_sign bs ≡ bs = ap (λ (t : Bool). cond t (drop 1 bs) (without_leading_plus bs)) e ∙ without_leading_plus_none bs plus in
        let value : signed_digits_value 10 bs ≡ pos (digits_value 10 bs) =
        ap (λ (t : Bool). cond t (neg_ℤ (pos (digits_value 10 (without_leading_sign bs)))) (pos (digits_value 10 (without_leading_sign bs)))) e
        ∙ ap (λ (ds : List ℕ). pos (digits_value 10 ds)) rest in
        inl (subst (IsNumeral 10) rest numeral, value)

-- ---- to it

-- what `parse` needs to know of a number
record IsParsed (bs : List ℕ) (n : ℤ) : Type 0 where
  plus : slice_index bs 0 ≢ 43
  numeral : IsNumeral 10 (without_leading_sign bs)
  value : n ≡ signed_digits_value 10 bs
  ascii : IsAscii bs

parsed_plain : (bs : List ℕ) (n : ℤ) → IsNumeral 10 bs → n ≡ pos (digits_value 10 bs) → IsParsed bs n
parsed_plain [] n numeral value = absurd (omega (arith, numeral.0))
parsed_plain (c ∷ cs) n numeral value =
    let bs = c ∷ cs in
    let digit = digit_from_value c numeral.1.0 in
    let minus : (c == 45) ≡ false = ne_eqb c 45 (λ is. omega (arith, digit)) in
    let plus : c ≢ 43 = λ is. omega (arith, digit) in
    let rest : without_leading_sign bs ≡ bs = ap (λ (t : Bool). cond t (drop 1 bs) (without_leading_plus bs)) minus ∙ without_leading_plus_none bs plus in
    let signed : signed_digits_value 10 bs ≡ pos (digits_value 10 bs) =
    ap (λ (t : Bool). cond t (neg_ℤ (pos (digits_value 10 (without_leading_sign bs)))) (pos (digits_value 10 (without_leading_sign bs)))) minus
    ∙ ap (λ (ds : List ℕ). pos (digits_value 10 ds)) rest in
    record { plus = plus; numeral = subst (IsNumeral 10) (sym rest) numeral; value = value ∙ sym signed; ascii = ascii_digits bs numeral.1 }

parsed : (bs : List ℕ) (n : ℤ) → IsNumber bs n → IsParsed bs n
parsed bs n (inl is) = parsed_plain bs n is.0 is.1
parsed bs n (inr is) = subst (λ (t : List ℕ). IsParsed t n) (sym is.1)
    (record { plus = λ bad. omega arith; numeral = is.2; value = is.3; ascii = ascii_signed is.0 is.2.1 })

-- ---- what the functions give

pub number_of : {E : Type 0} (w : Width) (bs : List ℕ) (r : Result ℤ E) → slice_index bs 0 ≢ 43
    → OkIff r (IsNumeral 10 (without_leading_sign bs) × FitsSigned w (signed_digits_value 10 bs)) (signed_digits_value 10 bs)
    → MatchOption (result_ok r) ((n : ℤ) → FitsSigned w n → ¬ IsNumber bs n) (IsNumber bs)
number_of w bs (Ok x) plus reads = subst (IsNumber bs) (sym reads.1) (read_number bs plus reads.0.0)
number_of w bs (Err e) plus reads = λ n fits is.
    let p = parsed bs n is in reads (p.numeral, subst (FitsSigned w) p.value fits)

pub no_number : (bs : List ℕ) (n : ℤ) → slice_index bs 0 ≡ 43 → IsNumber bs n → ⊥
no_number bs n plus is = (parsed bs n is).plus plus

pub no_text : (bs : List ℕ) (n : ℤ) → ¬ IsUtf8 bs → IsNumber bs n → ⊥
no_text bs n none is = none (IsUtf8-from_ascii bs (parsed bs n is).ascii)

pub one_number : (bs : List ℕ) (n m : ℤ) → IsNumber bs n → IsNumber bs m → n ≡ m
one_number bs n m is also = (parsed bs n is).value ∙ sym (parsed bs m also).value
