-- Words that are some text, a colon and a number.
use Rattle.std.proofs.Common.{◌≡◌, ◌≢◌, ℕ, suc, ◌^◌, ◌<◌, ◌≤◌, Bool, true, false, List, [], ◌∷◌, ◌++◌, length, drop, get_or, ap, refl, subst, sym, ◌∙◌, cond, codes, eqb, eqb-true, append_assoc, arith}
use Prim.Native.Nat.{zero}
use lib.Seq.{drop_at}
use Rattle.std.proofs.lemmas.List.{length-append}
use Rattle.std.specs.Str.Pattern.{RFindsText, SplitsAroundMatch, LacksTextAt}
use Rattle.std.specs.Str.Parse.{AllDigits, IsNumeral, digits_value, without_leading_plus}
use Rattle.clap.specs.Words.{Text}
use Rattle.tcp_edge.specs.CommandLine.{IsTextAndNumber}

no_colon : (ds : List ℕ) (k : ℕ) (rest : List ℕ) → AllDigits 10 ds → drop k ds ≢ 58 ∷ rest
no_colon [] zero rest are is = omega (arith, ap length is)
no_colon [] (suc k) rest are is = omega (arith, ap length is)
no_colon (c ∷ cs) zero rest are is = omega (arith, (subst (λ (x : ℕ). AllDigits 10 (x ∷ [])) (ap (λ (l : List ℕ). get_or l 0 0) is) (are.0, tt)).0)
no_colon (c ∷ cs) (suc k) rest are is = no_colon cs k rest are.1 is

behind_colon : (name digits : List ℕ) (i : ℕ) (back : List ℕ) → AllDigits 10 digits → drop i (name ++ 58 ∷ digits) ≡ 58 ∷ back
    → ((k : ℕ) → i < k → k ≤ length (name ++ 58 ∷ digits) → (rest : List ℕ) → drop k (name ++ 58 ∷ digits) ≢ 58 ∷ rest) → back ≡ digits
behind_colon [] digits zero back are at last = sym (ap (drop 1) at)
behind_colon [] digits (suc i) back are at last = absurd (no_colon digits i back are at)
behind_colon (c ∷ name) digits zero back are at last =
    absurd (last (length (c ∷ name)) (omega arith) (omega (arith, length-append name (58 ∷ digits))) digits (drop_at name (58 ∷ digits) (length name) refl))
behind_colon (c ∷ name) digits (suc i) back are at last =
    behind_colon name digits i back are at (λ k lt le rest. last (suc k) (omega arith) (omega arith) rest)

parts_of : (bits : ℕ) (word text : Text) (n : ℕ) (is : IsTextAndNumber bits word text n) → word ≡ text ++ 58 ∷ is.digits
parts_of bits word text n is = is.parts ∙ append_assoc text (codes ":") is.digits

-- the digits stand behind the last colon
digits_behind : (bits : ℕ) (word front back text : Text) (n : ℕ) → SplitsAroundMatch (RFindsText (codes ":")) word front back
    → (is : IsTextAndNumber bits word text n) → back ≡ is.digits
digits_behind bits word front back text n splits is =
    let parts = parts_of bits word text n is in
    splits.4 ∙ behind_colon text is.digits splits.0 (drop splits.1 word) is.are_digits.1 (ap (drop splits.0) (sym parts) ∙ splits.2.1.split)
    (λ k lt le rest bad. splits.2.0 k lt (subst (λ (w : Text). k ≤ length w) (sym parts) le) rest (ap (drop k) parts ∙ bad))

-- ---- words that are none

pub none_without_colon : (bits : ℕ) (word : Text) → ((i : ℕ) → i ≤ length word → LacksTextAt (codes ":") word i)
    → (text : Text) (n : ℕ) → ¬ IsTextAndNumber bits word text n
none_without_colon bits word lacks text n is =
    let parts : word ≡ text ++ 58 ∷ is.digits = parts_of bits word text n is in
    let in_word : length text ≤ length word = omega (arith, ap length parts, length-append text (58 ∷ is.digits)) in
    lacks (length text) in_word is.digits (ap (drop (length text)) parts ∙ drop_at text (58 ∷ is.digits) (length text) refl)

no_plus : (ds : Text) (rest : Text) → AllDigits 10 ds → ds ≢ 43 ∷ rest
no_plus [] rest are is = omega (arith, ap length is)
no_plus (c ∷ cs) rest are is = omega (arith, (subst (λ (x : ℕ). AllDigits 10 (x ∷ [])) (ap (λ (l : List ℕ). get_or l 0 0) is) (are.0, tt)).0)

pub none_with_plus : (bits : ℕ) (word front back rest : Text) → SplitsAroundMatch (RFindsText (codes ":")) word front back → back ≡ 43 ∷ rest
    → (text : Text) (n : ℕ) → ¬ IsTextAndNumber bits word text n
none_with_plus bits word front back rest splits plus text n is =
    no_plus is.digits rest is.are_digits.1 (sym (digits_behind bits word front back text n splits is) ∙ plus)

plain : (ds : Text) → AllDigits 10 ds → without_leading_plus ds ≡ ds
plain [] are = refl
plain (c ∷ cs) are = by (eqb c 43) refl
  where
    by : (b : Bool) → eqb c 43 ≡ b → drop (cond b 1 0) (c ∷ cs) ≡ c ∷ cs
    by true is = absurd (no_plus (c ∷ cs) cs are (ap (λ (x : ℕ). x ∷ cs) (eqb-true c 43 is)))
    by false is = refl

pub none_without_number : (bits : ℕ) (word front back : Text) → SplitsAroundMatch (RFindsText (codes ":")) word front back
    → ¬ (IsNumeral 10 (without_leading_plus back) × (digits_value 10 (without_leading_plus back) < 2 ^ bits))
    → (text : Text) (n : ℕ) → ¬ IsTextAndNumber bits word text n
none_without_number bits word front back splits none text n is =
    let same : without_leading_plus back ≡ is.digits = ap without_leading_plus (digits_behind bits word front back text n splits is) ∙ plain is.digits is.are_digits.1 in
    none (subst (λ (ds : Text). IsNumeral 10 ds × (digits_value 10 ds < 2 ^ bits)) (sym same) (is.are_digits, is.fits))

-- ---- a word has one text in front of its number

one_front : (t u ds es : List ℕ) → AllDigits 10 ds → AllDigits 10 es → t ++ 58 ∷ ds ≡ u ++ 58 ∷ es → t ≡ u
one_front [] [] ds es are ere is = refl
one_front [] (c ∷ u) ds es are ere is =
    absurd (no_colon ds (length u) es are (ap (λ (l : List ℕ). drop (length u) (drop 1 l)) is ∙ drop_at u (58 ∷ es) (length u) refl))
one_front (c ∷ t) [] ds es are ere is =
    absurd (no_colon es (length t) ds ere (ap (λ (l : List ℕ). drop (length t) (drop 1 l)) (sym is) ∙ drop_at t (58 ∷ ds) (length t) refl))
one_front (c ∷ t) (d ∷ u) ds es are ere is =
    ap (λ (x : ℕ). x ∷ t) (ap (λ (l : List ℕ). get_or l 0 0) is) ∙ ap (λ (l : List ℕ). d ∷ l) (one_front t u ds es are ere (ap (drop 1) is))

pub one_text : (bits : ℕ) (word t u : Text) (n m : ℕ) → IsTextAndNumber bits word t n → IsTextAndNumber bits word u m → t ≡ u
one_text bits word t u n m is also =
    one_front t u is.digits also.digits is.are_digits.1 also.are_digits.1 (sym (parts_of bits word t n is) ∙ parts_of bits word u m also)
