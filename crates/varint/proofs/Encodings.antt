-- What is read is the encoding of its value, and each encoding is read again, whatever follows it.
use Rattle.std.proofs.Common.{◌≡◌, ℕ, zero, suc, ◌+◌, ◌-◌, ◌*◌, ◌/◌, ◌%◌, ◌^◌, ◌<◌, ◌≤◌, true, false, ltb, leb, eqb, List, [], ◌∷◌, ◌++◌, length, get_or, Result, Ok, Err, refl, sym, ap, ◌∙◌, inl, inr, to_z, of_z, arith}
use Rattle.std.specs.Prelude.{ℤ, pos, negsuc, FitsSigned}
use Rattle.std.specs.Int.{w32, w64}
use Rattle.std.proofs.lemmas.Bool.{cases_lt, cond_both, lt-ltb, le-ltb, le-leb, ltb-true, ltb-false, leb-true, eqb-true, eqb-false, eq-eqb, ne_eqb}
use Rattle.std.proofs.lemmas.Int.{to_z-of_z}
use Rattle.varint.specs.declared.error.VarintError.{VarintError}
use Rattle.varint.specs.declared.error.VarintError.TheVariants.{TooLong}
use Rattle.varint.specs.Encoding.{zigzag, digits, encoding, digits_value, IsShortest}
use Rattle.varint.specs.Reading.{Read, unzigzag, with_digit, number_at, signed, varint_at, varlong_at}

abbrev pub IsBytes : List ℕ → Type 0
IsBytes bytes = (i : ℕ) → get_or bytes i 0 < 256

-- The numbers up to limit take one digit and at most `more` others, and fill each digit but the last.
abbrev pub IsLimit : ℕ → ℕ → Type 0
IsLimit zero limit = limit < 128
IsLimit (suc more) limit = (128 ≤ limit → limit % 128 ≡ 127) × IsLimit more (limit / 128)

limit32 : IsLimit 9 0xffff_ffff
limit32 = (λ _. refl, (λ _. refl, (λ _. refl, (λ _. refl, (λ h. absurd (omega arith), (λ h. absurd (omega arith), (λ h. absurd (omega arith), (λ h. absurd (omega arith), (λ h. absurd (omega arith), omega arith)))))))))

limit64 : IsLimit 9 0xffff_ffff_ffff_ffff
limit64 = (λ _. refl, (λ _. refl, (λ _. refl, (λ _. refl, (λ _. refl, (λ _. refl, (λ _. refl, (λ _. refl, (λ _. refl, omega arith)))))))))

-- ---- zigzag

pub unzigzag-zigzag : (v : ℤ) → unzigzag (zigzag v) ≡ v
unzigzag-zigzag (pos n) =
    let even : eqb ((2 * n) % 2) 0 ≡ true = eq-eqb _ _ (omega arith) in
    let half : 2 * n / 2 ≡ n = omega arith in
    rw (even, half) refl
unzigzag-zigzag (negsuc n) =
    let odd : eqb ((2 * n + 1) % 2) 0 ≡ false = ne_eqb _ _ (λ e. omega arith) in
    let half : (2 * n + 1) / 2 ≡ n = omega arith in
    rw (odd, half) refl

pub zigzag-unzigzag : (n : ℕ) → zigzag (unzigzag n) ≡ n
zigzag-unzigzag n =
    cond_both (eqb (n % 2) 0) (pos (n / 2)) (negsuc (n / 2)) (λ v. zigzag v ≡ n)
    (λ e. let even = eqb-true _ _ e in omega arith)
    (λ e. let odd = eqb-false _ _ e in omega arith)

pub zigzag_fits32 : (v : ℤ) → FitsSigned w32 v → zigzag v ≤ 0xffff_ffff
zigzag_fits32 (pos n) fits = let small : n < 2 ^ 31 = fits.sfits in omega arith
zigzag_fits32 (negsuc n) fits = let small : n < 2 ^ 31 = fits.sfits in omega arith

pub zigzag_fits64 : (v : ℤ) → FitsSigned w64 v → zigzag v ≤ 0xffff_ffff_ffff_ffff
zigzag_fits64 (pos n) fits = let small : n < 2 ^ 63 = fits.sfits in omega arith
zigzag_fits64 (negsuc n) fits = let small : n < 2 ^ 63 = fits.sfits in omega arith

pub fits32 : (v : ℤ) → zigzag v ≤ 0xffff_ffff → FitsSigned w32 v
fits32 (pos n) le = record { sfits = omega arith }
fits32 (negsuc n) le = record { sfits = omega arith }

pub fits64 : (v : ℤ) → zigzag v ≤ 0xffff_ffff_ffff_ffff → FitsSigned w64 v
fits64 (pos n) le = record { sfits = omega arith }
fits64 (negsuc n) le = record { sfits = omega arith }

-- a number of 32 bits that is narrowed stays as it is
pub narrowed : (v : ℤ) → zigzag v ≤ 0xffff_ffff → to_z w32 (of_z w32 (to_z w64 (of_z w64 v))) ≡ v
narrowed v le =
    let narrow = fits32 v le in
    let wide : FitsSigned w64 v = fits64 v (omega arith) in
    rw (to_z-of_z w64 v wide, to_z-of_z w32 v narrow) refl

-- ---- digits

pub digits_last : (more n : ℕ) → n < 128 → digits more n ≡ n ∷ []
unfolding digits
digits_last zero n lt = refl
digits_last (suc more) n lt = rw (lt-ltb n 128 lt) refl

pub digits_more : (more n : ℕ) → 128 ≤ n → digits (suc more) n ≡ (128 + n % 128) ∷ digits more (n / 128)
unfolding digits
digits_more more n le = rw (le-ltb n 128 le) refl

IsBytes-rest : (b : ℕ) (bytes : List ℕ) → IsBytes (b ∷ bytes) → IsBytes bytes
IsBytes-rest b bytes fits i = fits (suc i)

-- ---- what was encoded is read again

with_digit-more : (b high : ℕ) (rest : List ℕ) → 0 < high → with_digit b (Ok (high, rest)) ≡ Ok ((b - 128) + 128 * high, rest)
with_digit-more b zero rest lt = absurd (omega arith)
with_digit-more b (suc high) rest lt = refl

pub number_last : (limit n : ℕ) (rest : List ℕ) → n < 128 → n ≤ limit → number_at limit (n ∷ rest) ≡ Ok (n, rest)
unfolding number_at
number_last limit n rest lt le =
    elim (cases_lt limit 128) [
      | inl small ↦ rw (lt-ltb limit 128 small, le-leb n limit le) refl
      | inr large ↦ rw (le-ltb limit 128 large, lt-ltb n 128 lt) refl
    ]

pub number_more : (limit b high : ℕ) (bytes rest : List ℕ) → 128 ≤ limit → 128 ≤ b → 0 < high → number_at (limit / 128) bytes ≡ Ok (high, rest) → number_at limit (b ∷ bytes) ≡ Ok ((b - 128) + 128 * high, rest)
unfolding number_at
number_more limit b high bytes rest large mark some e = rw (le-ltb limit 128 large, le-ltb b 128 mark, e) (with_digit-more b high rest some)

number_again : (more limit n : ℕ) (rest : List ℕ) → IsLimit more limit → n ≤ limit → number_at limit (digits more n ++ rest) ≡ Ok (n, rest)
number_again zero limit n rest wide le =
    let lt : n < 128 = omega arith in
    rw (digits_last zero n lt) (number_last limit n rest lt le)
number_again (suc more) limit n rest wide le =
    elim (cases_lt n 128) [
      | inl lt ↦ rw (digits_last (suc more) n lt) (number_last limit n rest lt le)
      | inr large ↦
          let others = number_again more (limit / 128) (n / 128) rest wide.1 (omega arith) in
          let one = number_more limit (128 + n % 128) (n / 128) (digits more (n / 128) ++ rest) rest (omega arith) (omega arith) (omega arith) others in
          let value : (128 + n % 128 - 128) + 128 * (n / 128) ≡ n = omega arith in
          rw (digits_more more n large) (one ∙ ap (λ (k : ℕ). Ok (k, rest)) value)
    ]

-- ---- what is read is encoded so

abbrev Takes : ℕ → ℕ → List ℕ → Read ℕ → Type 0
Takes more limit bytes (Ok (n, rest)) = (bytes ≡ digits more n ++ rest) × (n ≤ limit)
Takes more limit bytes (Err e) = Unit {0}

takes_last : (more limit b : ℕ) (bytes : List ℕ) → b < 128 → b ≤ limit → Takes more limit (b ∷ bytes) (Ok (b, bytes))
takes_last more limit b bytes lt le = (rw (digits_last more b lt) refl, le)

takes_more : (more limit b : ℕ) (bytes : List ℕ) (read : Read ℕ) → (128 ≤ limit → limit % 128 ≡ 127) → 128 ≤ limit → 128 ≤ b → b < 256 → Takes more (limit / 128) bytes read → Takes (suc more) limit (b ∷ bytes) (with_digit b read)
takes_more more limit b bytes (Ok (zero, rest)) full large mark byte h = tt
takes_more more limit b bytes (Ok (suc high, rest)) full large mark byte h =
    let wide = full large in
    let le : suc high ≤ limit / 128 = h.1 in
    let above : 128 ≤ (b - 128) + 128 * suc high = omega arith in
    let digit : 128 + ((b - 128) + 128 * suc high) % 128 ≡ b = omega arith in
    let others : ((b - 128) + 128 * suc high) / 128 ≡ suc high = omega arith in
    let fits : (b - 128) + 128 * suc high ≤ limit = omega arith in
    (rw (digits_more more ((b - 128) + 128 * suc high) above, digit, others, h.0) refl, fits)
takes_more more limit b bytes (Err e) full large mark byte h = tt

number_takes : (more limit : ℕ) (bytes : List ℕ) → IsLimit more limit → IsBytes bytes → Takes more limit bytes (number_at limit bytes)
unfolding number_at
number_takes more limit [] wide fits = tt
number_takes zero limit (b ∷ bytes) wide fits =
    rw (lt-ltb limit 128 wide)
    (cond_both (leb b limit) (Ok (b, bytes)) (Err TooLong) (Takes zero limit (b ∷ bytes))
    (λ e. let le = leb-true _ _ e in takes_last zero limit b bytes (omega arith) le)
    (λ e. tt))
number_takes (suc more) limit (b ∷ bytes) wide fits =
    cond_both (ltb limit 128) _ _ (Takes (suc more) limit (b ∷ bytes))
    (λ small. cond_both (leb b limit) (Ok (b, bytes)) (Err TooLong) (Takes (suc more) limit (b ∷ bytes))
    (λ e. let le = leb-true _ _ e in let lt = ltb-true _ _ small in takes_last (suc more) limit b bytes (omega arith) le)
    (λ e. tt))
    (λ large. cond_both (ltb b 128) (Ok (b, bytes)) (with_digit b (number_at (limit / 128) bytes)) (Takes (suc more) limit (b ∷ bytes))
    (λ e. let lt = ltb-true _ _ e in let le = ltb-false _ _ large in takes_last (suc more) limit b bytes lt (omega arith))
    (λ e. takes_more more limit b bytes (number_at (limit / 128) bytes) wide.0 (ltb-false _ _ large) (ltb-false _ _ e) (fits 0) (number_takes more (limit / 128) bytes wide.1 (IsBytes-rest b bytes fits))))

-- ---- signed numbers

abbrev pub done : {A : Type 0} → A → Result A VarintError
done x = Ok x

pub ok_is : {A : Type 0} (x y : A) → done x ≡ done y → x ≡ y
ok_is x y e = cc

signed_takes : (bytes : List ℕ) (read : Read ℕ) (limit : ℕ) (v : ℤ) (rest : List ℕ) → Takes 9 limit bytes read → signed read ≡ Ok (v, rest) → (bytes ≡ encoding v ++ rest) × (zigzag v ≤ limit)
unfolding encoding
signed_takes bytes (Ok (n, after)) limit v rest h e =
    let both = ok_is (unzigzag n, after) (v, rest) e in
    let value : unzigzag n ≡ v = ap (λ (x : ℤ × List ℕ). x.0) both in
    let left : after ≡ rest = ap (λ (x : ℤ × List ℕ). x.1) both in
    let number : n ≡ zigzag v = sym (zigzag-unzigzag n) ∙ ap zigzag value in
    (rw (← number, ← left) h.0, rw (← number) h.1)
signed_takes bytes (Err d) limit v rest h e = absurd cc

signed_again : (limit : ℕ) (v : ℤ) (rest : List ℕ) → IsLimit 9 limit → zigzag v ≤ limit → signed (number_at limit (encoding v ++ rest)) ≡ Ok (v, rest)
unfolding encoding
signed_again limit v rest wide le = rw (number_again 9 limit (zigzag v) rest wide le, unzigzag-zigzag v) refl

pub i32_again : (v : ℤ) (rest : List ℕ) → FitsSigned w32 v → varint_at (encoding v ++ rest) ≡ Ok (v, rest)
unfolding varint_at
i32_again v rest fits = signed_again 0xffff_ffff v rest limit32 (zigzag_fits32 v fits)

pub i64_again : (v : ℤ) (rest : List ℕ) → FitsSigned w64 v → varlong_at (encoding v ++ rest) ≡ Ok (v, rest)
unfolding varlong_at
i64_again v rest fits = signed_again 0xffff_ffff_ffff_ffff v rest limit64 (zigzag_fits64 v fits)

pub i32_takes : (bytes : List ℕ) (v : ℤ) (rest : List ℕ) → IsBytes bytes → varint_at bytes ≡ Ok (v, rest) → (bytes ≡ encoding v ++ rest) × FitsSigned w32 v
unfolding varint_at
i32_takes bytes v rest fits e =
    let found = signed_takes bytes (number_at 0xffff_ffff bytes) 0xffff_ffff v rest (number_takes 9 0xffff_ffff bytes limit32 fits) e in
    (found.0, fits32 v found.1)

pub i64_takes : (bytes : List ℕ) (v : ℤ) (rest : List ℕ) → IsBytes bytes → varlong_at bytes ≡ Ok (v, rest) → (bytes ≡ encoding v ++ rest) × FitsSigned w64 v
unfolding varlong_at
i64_takes bytes v rest fits e =
    let found = signed_takes bytes (number_at 0xffff_ffff_ffff_ffff bytes) 0xffff_ffff_ffff_ffff v rest (number_takes 9 0xffff_ffff_ffff_ffff bytes limit64 fits) e in
    (found.0, fits64 v found.1)

digits_len : (more n : ℕ) → (1 ≤ length (digits more n)) × (length (digits more n) ≤ suc more)
unfolding digits
digits_len zero n = (omega arith, omega arith)
digits_len (suc more) n =
    let others = digits_len more (n / 128) in
    cond_both (ltb n 128) (n ∷ []) ((128 + n % 128) ∷ digits more (n / 128)) (λ bytes. (1 ≤ length bytes) × (length bytes ≤ suc (suc more)))
    (λ e. (omega arith, omega arith))
    (λ e. (omega arith, omega arith))

pub encoding_len : (v : ℤ) → (1 ≤ length (encoding v)) × (length (encoding v) ≤ 10)
unfolding encoding
encoding_len v = digits_len 9 (zigzag v)

-- ---- each number of 64 bits has one encoding

shortest_more : (b : ℕ) (bytes : List ℕ) → 127 < b → b < 256 → 0 < digits_value bytes → IsShortest bytes → IsShortest (b ∷ bytes)
shortest_more b [] mark byte some shortest = absurd shortest
shortest_more b (c ∷ bytes) mark byte some shortest = (mark, byte, some, shortest)

digits_shortest : (more limit n : ℕ) → IsLimit more limit → n ≤ limit → IsShortest (digits more n) × (digits_value (digits more n) ≡ n)
digits_shortest zero limit n wide le =
    let lt : n < 128 = omega arith in
    rw (digits_last zero n lt) (lt, omega arith)
digits_shortest (suc more) limit n wide le =
    elim (cases_lt n 128) [
      | inl lt ↦ rw (digits_last (suc more) n lt) (lt, omega arith)
      | inr large ↦
          let others = digits_shortest more (limit / 128) (n / 128) wide.1 (omega arith) in
          let value : digits_value (digits more (n / 128)) ≡ n / 128 = others.1 in
          let shortest = shortest_more (128 + n % 128) (digits more (n / 128)) (omega arith) (omega arith) (omega arith) others.0 in
          rw (digits_more more n large) (shortest, omega arith)
    ]

pub encoding_shortest : (v : ℤ) → FitsSigned w64 v → IsShortest (encoding v) × (digits_value (encoding v) ≡ zigzag v)
unfolding encoding
encoding_shortest v fits = digits_shortest 9 0xffff_ffff_ffff_ffff (zigzag v) limit64 (zigzag_fits64 v fits)

-- bytes that are shortest are the digits of their value
shortest_digits : (more limit : ℕ) (bytes : List ℕ) → IsLimit more limit → IsShortest bytes → digits_value bytes ≤ limit → bytes ≡ digits more (digits_value bytes)
shortest_digits more limit [] wide shortest le = absurd shortest
shortest_digits more limit (b ∷ []) wide shortest le =
    let value : digits_value (b ∷ []) ≡ b = omega arith in
    sym (ap (digits more) value ∙ digits_last more b shortest)
shortest_digits zero limit (b ∷ c ∷ bytes) wide shortest le =
    let some : 0 < digits_value (c ∷ bytes) = shortest.2 in
    absurd (omega arith)
shortest_digits (suc more) limit (b ∷ c ∷ bytes) wide shortest le =
    let some : 0 < digits_value (c ∷ bytes) = shortest.2 in
    let mark : 127 < b = shortest.0 in
    let byte : b < 256 = shortest.1 in
    let others = shortest_digits more (limit / 128) (c ∷ bytes) wide.1 shortest.3 (omega arith) in
    let above : 128 ≤ digits_value (b ∷ c ∷ bytes) = omega arith in
    let digit : 128 + digits_value (b ∷ c ∷ bytes) % 128 ≡ b = omega arith in
    let high : digits_value (b ∷ c ∷ bytes) / 128 ≡ digits_value (c ∷ bytes) = omega arith in
    sym (digits_more more (digits_value (b ∷ c ∷ bytes)) above ∙ ap (λ (d : ℕ). d ∷ digits more (digits_value (b ∷ c ∷ bytes) / 128)) digit ∙ ap (λ (k : ℕ). b ∷ digits more k) high ∙ ap (λ (x : List ℕ). b ∷ x) (sym others))

pub encoding_only : (v : ℤ) (bytes : List ℕ) → FitsSigned w64 v → IsShortest bytes → digits_value bytes ≡ zigzag v → bytes ≡ encoding v
unfolding encoding
encoding_only v bytes fits shortest value =
    let le : digits_value bytes ≤ 0xffff_ffff_ffff_ffff = omega (arith, zigzag_fits64 v fits) in
    shortest_digits 9 0xffff_ffff_ffff_ffff bytes limit64 shortest le ∙ ap (digits 9) value

-- no encoding begins another
pub encoding_apart : (v w : ℤ) (x y : List ℕ) → FitsSigned w64 v → FitsSigned w64 w → encoding v ++ x ≡ encoding w ++ y → (v ≡ w) × (x ≡ y)
encoding_apart v w x y first second e =
    let both = ok_is (v, x) (w, y) (sym (i64_again v x first) ∙ ap varlong_at e ∙ i64_again w y second) in
    (ap (λ (p : ℤ × List ℕ). p.0) both, ap (λ (p : ℤ × List ℕ). p.1) both)
