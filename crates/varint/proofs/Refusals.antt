-- Which refusal comes.
use Rattle.std.proofs.Common.{◌≡◌, ℕ, zero, suc, ◌+◌, ◌/◌, ◌<◌, ◌≤◌, ltb, leb, List, [], ◌∷◌, length, get_or, Ok, Err, refl, sym, subst, one-add, arith}
use Rattle.std.specs.Prelude.{◌↔◌}
use Rattle.std.proofs.lemmas.Bool.{cond_both, lt-ltb, le-ltb, ltb-true, ltb-false, leb-true, leb-false}
use Rattle.varint.specs.declared.error.VarintError.{VarintError}
use Rattle.varint.specs.declared.error.VarintError.TheVariants.{Short, TooLong, NotShortest}
use Rattle.varint.specs.Refusals.{marks}
use Rattle.varint.specs.Reading.{Read, with_digit, number_at}

-- the numbers up to limit take at most `more` digits and a last one, of at most top
abbrev pub HasTop : ℕ → ℕ → ℕ → Type 0
HasTop zero top limit = (limit ≡ top) × (top < 128)
HasTop (suc more) top limit = (128 ≤ limit) × HasTop more top (limit / 128)

-- What an outcome says of the bytes, of which `marked` at the front have the mark, there are len, after
-- the marked ones comes last, and after `more` of them comes at_more.
abbrev pub Says : ℕ → ℕ → ℕ → ℕ → ℕ → ℕ → Read ℕ → Type 0
Says more top marked len last at_more (Ok (n, rest)) = (marked < len) × (marked ≤ more) × (marked ≡ more → at_more ≤ top) × (n ≡ 0 → last ≡ 0) × (0 < n → 0 < last) × (0 < marked → 0 < last)
Says more top marked len last at_more (Err Short) = (marked ≡ len) × (len ≤ more)
Says more top marked len last at_more (Err TooLong) = (more ≤ marked) × (more < len) × (top < at_more)
Says more top marked len last at_more (Err NotShortest) = (0 < marked) × (marked < len) × (marked ≤ more) × (marked ≡ more → at_more ≤ top) × (last ≡ 0)

says_more : (more top marked len last at_more b : ℕ) (read : Read ℕ) → Says more top marked len last at_more read → Says (suc more) top (suc marked) (suc len) last at_more (with_digit b read)
says_more more top marked len last at_more b (Ok (zero, rest)) (inside, few, fits, none, some, shortest) = (omega arith, omega arith, omega arith, (λ e. fits (omega arith)), none refl)
says_more more top marked len last at_more b (Ok (suc high, rest)) (inside, few, fits, none, some, shortest) = (omega arith, omega arith, (λ e. fits (omega arith)), (λ e. absurd (omega arith)), (λ h. some (omega arith)), (λ h. some (omega arith)))
says_more more top marked len last at_more b (Err Short) (all, few) = (omega arith, omega arith)
says_more more top marked len last at_more b (Err TooLong) (many, inside, above) = (omega arith, omega arith, above)
says_more more top marked len last at_more b (Err NotShortest) (some, inside, few, fits, none) = (omega arith, omega arith, omega arith, (λ e. fits (omega arith)), none)

abbrev Outcome : ℕ → ℕ → List ℕ → Read ℕ → Type 0
Outcome more top bytes read = Says more top (marks bytes) (length bytes) (get_or bytes (marks bytes) 0) (get_or bytes more 0) read

marks_none : (b : ℕ) (bytes : List ℕ) → b < 128 → marks (b ∷ bytes) ≡ 0
marks_none b bytes lt = rw (lt-ltb b 128 lt) refl

marks_more : (b : ℕ) (bytes : List ℕ) → 128 ≤ b → marks (b ∷ bytes) ≡ suc (marks bytes)
marks_more b bytes le = rw (le-ltb b 128 le) (one-add (marks bytes))

-- the last digit
says_last : (more top b : ℕ) (bytes : List ℕ) → (more ≡ 0 → b ≤ top) → Says more top 0 (length (b ∷ bytes)) b (get_or (b ∷ bytes) more 0) (Ok (b, bytes))
says_last zero top b bytes fits = (omega arith, omega arith, fits, (λ e. e), (λ h. h), (λ h. absurd (omega arith)))
says_last (suc more) top b bytes fits = (omega arith, omega arith, (λ e. absurd (omega arith)), (λ e. e), (λ h. h), (λ h. absurd (omega arith)))

outcome_last : (more top b : ℕ) (bytes : List ℕ) → b < 128 → (more ≡ 0 → b ≤ top) → Outcome more top (b ∷ bytes) (Ok (b, bytes))
outcome_last more top b bytes lt fits =
    subst (λ (m : ℕ). Says more top m (length (b ∷ bytes)) (get_or (b ∷ bytes) m 0) (get_or (b ∷ bytes) more 0) (Ok (b, bytes))) (sym (marks_none b bytes lt)) (says_last more top b bytes fits)

outcome_more : (more top b : ℕ) (bytes : List ℕ) (read : Read ℕ) → 128 ≤ b → Outcome more top bytes read → Outcome (suc more) top (b ∷ bytes) (with_digit b read)
outcome_more more top b bytes read le h =
    subst (λ (m : ℕ). Says (suc more) top m (length (b ∷ bytes)) (get_or (b ∷ bytes) m 0) (get_or (b ∷ bytes) (suc more) 0) (with_digit b read)) (sym (marks_more b bytes le))
    (says_more more top (marks bytes) (length bytes) (get_or bytes (marks bytes) 0) (get_or bytes more 0) b read h)

outcome : (more top limit : ℕ) (bytes : List ℕ) → HasTop more top limit → Outcome more top bytes (number_at limit bytes)
unfolding number_at
outcome more top limit [] has = (refl, omega arith)
outcome zero top limit (b ∷ bytes) has =
    rw (lt-ltb limit 128 (omega arith))
    (cond_both (leb b limit) (Ok (b, bytes)) (Err TooLong) (Outcome zero top (b ∷ bytes))
    (λ e. let le = leb-true _ _ e in outcome_last zero top b bytes (omega arith) (λ _. omega arith))
    (λ e. let gt = leb-false _ _ e in (omega arith, omega arith, omega arith)))
outcome (suc more) top limit (b ∷ bytes) has =
    rw (le-ltb limit 128 has.0)
    (cond_both (ltb b 128) (Ok (b, bytes)) (with_digit b (number_at (limit / 128) bytes)) (Outcome (suc more) top (b ∷ bytes))
    (λ e. outcome_last (suc more) top b bytes (ltb-true _ _ e) (λ h. absurd (omega arith)))
    (λ e. outcome_more more top b bytes (number_at (limit / 128) bytes) (ltb-false _ _ e) (outcome more top (limit / 128) bytes has.1)))

-- ---- each refusal, exactly when

abbrev pub fault : VarintError → Read ℕ
fault e = Err e

abbrev TooLongAt : ℕ → ℕ → ℕ → ℕ → ℕ → Type 0
TooLongAt more top marked len at_more = (suc more ≤ marked + 1) × (suc more ≤ len) × (top < at_more)

pub short_exactly : (more top marked len last at_more : ℕ) (read : Read ℕ) → Says more top marked len last at_more read → (read ≡ fault Short) ↔ ((marked ≡ len) × (len < suc more))
short_exactly more top marked len last at_more (Ok (n, rest)) h = (λ e. absurd cc, λ g. absurd (omega arith))
short_exactly more top marked len last at_more (Err Short) h = (λ e. (h.0, omega arith), λ g. refl)
short_exactly more top marked len last at_more (Err TooLong) h = (λ e. absurd cc, λ g. absurd (omega arith))
short_exactly more top marked len last at_more (Err NotShortest) h = (λ e. absurd cc, λ g. absurd (omega arith))

pub too_long_exactly : (more top marked len last at_more : ℕ) (read : Read ℕ) → Says more top marked len last at_more read → (read ≡ fault TooLong) ↔ TooLongAt more top marked len at_more
too_long_exactly more top marked len last at_more (Ok (n, rest)) h = (λ e. absurd cc, λ g. absurd (omega arith))
too_long_exactly more top marked len last at_more (Err Short) h = (λ e. absurd cc, λ g. absurd (omega arith))
too_long_exactly more top marked len last at_more (Err TooLong) h = (λ e. (omega arith, omega arith, omega arith), λ g. refl)
too_long_exactly more top marked len last at_more (Err NotShortest) h = (λ e. absurd cc, λ g. absurd (omega arith))

pub not_shortest_exactly : (more top marked len last at_more : ℕ) (read : Read ℕ) → Says more top marked len last at_more read → (read ≡ fault NotShortest) ↔ (¬ TooLongAt more top marked len at_more × (0 < marked) × (marked < len) × (last ≡ 0))
not_shortest_exactly more top marked len last at_more (Ok (n, rest)) h = (λ e. absurd cc, λ g. let p = g.1 in let z = g.3 in absurd (omega arith))
not_shortest_exactly more top marked len last at_more (Err Short) h = (λ e. absurd cc, λ g. absurd (omega arith))
not_shortest_exactly more top marked len last at_more (Err TooLong) h = (λ e. absurd cc, λ g. absurd (g.0 (omega arith, omega arith, omega arith)))
not_shortest_exactly more top marked len last at_more (Err NotShortest) h = (λ e. ((λ g. absurd (omega arith)), h.0, h.1, h.4), λ g. refl)

pub refused : (more top limit : ℕ) (bytes : List ℕ) → HasTop more top limit → ((number_at limit bytes ≡ fault Short) ↔ ((marks bytes ≡ length bytes) × (length bytes < suc more)))
    × ((number_at limit bytes ≡ fault TooLong) ↔ TooLongAt more top (marks bytes) (length bytes) (get_or bytes more 0))
    × ((number_at limit bytes ≡ fault NotShortest) ↔ (¬ TooLongAt more top (marks bytes) (length bytes) (get_or bytes more 0) × (0 < marks bytes) × (marks bytes < length bytes) × (get_or bytes (marks bytes) 0 ≡ 0)))
refused more top limit bytes has =
    let says = outcome more top limit bytes has in
    (short_exactly more top _ _ _ _ _ says, too_long_exactly more top _ _ _ _ _ says, not_shortest_exactly more top _ _ _ _ _ says)
