-- Samples, one after the other from the newest.
use Rattle.std.proofs.Common.{◌≡◌, ℕ, zero, suc, ◌+◌, ◌<◌, Bool, true, false, cond, List, [], ◌∷◌, length, get_or, take, drop, refl, sym, ap, ◌∙◌, arith}
use Rattle.std.specs.Prelude.{Some}
use Rattle.std.proofs.lemmas.List.{drop_more}
use Rattle.cleaning_policy.specs.declared.values.Sample.{Sample}
use Rattle.cleaning_policy.specs.Samples.{has_passed, old_sample, asked_samples}

old_next : (lag now : ℕ) (x : Sample) (xs : List Sample) (b : Bool) → has_passed x.time lag now ≡ b → old_sample lag now (x ∷ xs) ≡ cond b (Some x) (old_sample lag now xs)
old_next lag now x xs b e = ap (λ (t : Bool). cond t (Some x) (old_sample lag now xs)) e

-- a sample that isn't so old is passed over
pub old_more : (lag now : ℕ) (xs all : List Sample) (i : ℕ) (x : Sample) → i < length xs → x ≡ get_or xs i x → has_passed x.time lag now ≡ false
    → old_sample lag now (drop i xs) ≡ old_sample lag now all → old_sample lag now (drop (i + 1) xs) ≡ old_sample lag now all
old_more lag now xs all i x low is young e =
    let here : drop i xs ≡ x ∷ drop (i + 1) xs = drop_more xs i x low ∙ ap (λ (y : Sample). y ∷ drop (i + 1) xs) (sym is) in
    sym (ap (old_sample lag now) here ∙ old_next lag now x (drop (i + 1) xs) false young) ∙ e

-- the first one that is so old is found
pub old_found : (lag now : ℕ) (xs all : List Sample) (i : ℕ) (x : Sample) → i < length xs → x ≡ get_or xs i x → has_passed x.time lag now ≡ true
    → old_sample lag now (drop i xs) ≡ old_sample lag now all → Some x ≡ old_sample lag now all
old_found lag now xs all i x low is old e =
    let here : drop i xs ≡ x ∷ drop (i + 1) xs = drop_more xs i x low ∙ ap (λ (y : Sample). y ∷ drop (i + 1) xs) (sym is) in
    sym (ap (old_sample lag now) here ∙ old_next lag now x (drop (i + 1) xs) true old) ∙ e

-- ---- how many can be asked for

-- the first `n` are asked for where the rest behind `i` are
pub asked_none : (lag now : ℕ) → asked_samples lag now [] ≡ []
unfolding asked_samples
asked_none lag now = refl

asked_next : (lag now : ℕ) (x : Sample) (xs : List Sample) (b : Bool) → has_passed x.time lag now ≡ b → asked_samples lag now (x ∷ xs) ≡ x ∷ cond b [] (asked_samples lag now xs)
unfolding asked_samples
asked_next lag now x xs b e = ap (λ (t : Bool). x ∷ cond t [] (asked_samples lag now xs)) e

-- the first `i` samples are all young
abbrev pub AreYoung : (lag now i : ℕ) → List Sample → Type 0
AreYoung lag now i xs = (k : ℕ) (x : Sample) → k < i → has_passed (get_or xs k x).time lag now ≡ false

young_rest : (lag now i : ℕ) (x : Sample) (xs : List Sample) → AreYoung lag now (suc i) (x ∷ xs) → AreYoung lag now i xs
young_rest lag now i x xs young k y lt = young (suc k) y (omega arith)

-- where all are young all are asked for
pub asked_all : (lag now i : ℕ) (xs : List Sample) → length xs ≡ i → AreYoung lag now i xs → take i xs ≡ asked_samples lag now xs
asked_all lag now zero [] e young = sym (asked_none lag now)
asked_all lag now (suc i) [] e young = absurd (omega arith)
asked_all lag now zero (x ∷ xs) e young = absurd (omega arith)
asked_all lag now (suc i) (x ∷ xs) e young =
    ap (λ (ys : List Sample). x ∷ ys) (asked_all lag now i xs (omega arith) (young_rest lag now i x xs young))
    ∙ sym (asked_next lag now x xs false (young 0 x (omega arith)))

asked_upto : (lag now i : ℕ) (x : Sample) (xs : List Sample) → i < length xs → has_passed (get_or xs i x).time lag now ≡ true → AreYoung lag now i xs
    → take (suc i) xs ≡ asked_samples lag now xs
asked_upto lag now i d [] lt old young = absurd (omega arith)
asked_upto lag now zero d (x ∷ xs) lt old young = sym (asked_next lag now x xs true old)
asked_upto lag now (suc i) d (x ∷ xs) lt old young =
    ap (λ (ys : List Sample). x ∷ ys) (asked_upto lag now i d xs (omega arith) old (young_rest lag now i x xs young))
    ∙ sym (asked_next lag now x xs false (young 0 x (omega arith)))

-- behind young ones, the first that is so old is the last that is asked for
pub asked_to : (lag now i : ℕ) (x : Sample) (xs : List Sample) → i < length xs → has_passed (get_or xs i x).time lag now ≡ true → AreYoung lag now i xs
    → take (i + 1) xs ≡ asked_samples lag now xs
asked_to lag now i x xs lt old young =
    let e : i + 1 ≡ suc i = omega arith in
    ap (λ (n : ℕ). take n xs) e ∙ asked_upto lag now i x xs lt old young
