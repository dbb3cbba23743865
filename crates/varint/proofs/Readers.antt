-- The clauses of the readers, from what they give.
use Rattle.std.proofs.Common.{◌≡◌, ℕ, ◌≤◌, List, ◌++◌, length, drop, Result, Ok, Err, refl, ap, subst, ◌∙◌, arith, length-append, length-drop}
use Rattle.std.specs.Prelude.{ℤ, FitsSigned, IfOk, IsErrOf, ◌↔◌}
use Rattle.std.specs.Int.{w32, w64}
use Rattle.varint.specs.declared.error.VarintError.{VarintError}
use Rattle.varint.specs.declared.error.VarintError.TheVariants.{Short, TooLong, NotShortest}
use Rattle.varint.specs.Encoding.{encoding}
use Rattle.varint.specs.Refusals.{IsShort, IsTooLong, IsNotShortest}
use Rattle.varint.specs.Reading.{Read, Gives, signed, varint_at, varlong_at}
use Rattle.varint.proofs.Encodings.{IsBytes, done, ok_is, i32_again, i64_again, i32_takes, i64_takes}
use Rattle.varint.proofs.Refusals.{fault, refused}

abbrev Found : List ℕ → Result (ℤ × ℕ) VarintError → Type 0
Found bytes result = IfOk result (λ read. (bytes ≡ encoding read.0 ++ drop read.1 bytes) × (read.1 ≡ length (encoding read.0)))

found_len : (bytes : List ℕ) (v : ℤ) (used : ℕ) → used ≤ length bytes → bytes ≡ encoding v ++ drop used bytes → used ≡ length (encoding v)
found_len bytes v used le e =
    let all = ap length e ∙ length-append (encoding v) (drop used bytes) in
    let rest = length-drop used bytes in
    omega arith

pub is_found32 : (bytes : List ℕ) (result : Result (ℤ × ℕ) VarintError) → IsBytes bytes → Gives bytes result (varint_at bytes) → Found bytes result
is_found32 bytes (Ok (v, used)) fits (le, e) = let takes = i32_takes bytes v (drop used bytes) fits e in (takes.0, found_len bytes v used le takes.0)
is_found32 bytes (Err e) fits given = tt

pub is_found64 : (bytes : List ℕ) (result : Result (ℤ × ℕ) VarintError) → IsBytes bytes → Gives bytes result (varlong_at bytes) → Found bytes result
is_found64 bytes (Ok (v, used)) fits (le, e) = let takes = i64_takes bytes v (drop used bytes) fits e in (takes.0, found_len bytes v used le takes.0)
is_found64 bytes (Err e) fits given = tt

pub is_within : (bytes : List ℕ) (result : Result (ℤ × ℕ) VarintError) (read : Read ℤ) → Gives bytes result read → IfOk result (λ r. r.1 ≤ length bytes)
is_within bytes (Ok (v, used)) read given = given.0
is_within bytes (Err e) read given = tt

-- a reader that gives the number and the bytes after its encoding
given_again : (bytes : List ℕ) (result : Result (ℤ × ℕ) VarintError) (v : ℤ) (rest : List ℕ) → bytes ≡ encoding v ++ rest → Gives bytes result (done (v, rest)) → result ≡ done (v, length (encoding v))
given_again bytes (Ok (w, used)) v rest split (le, e) =
    let both = ok_is (v, rest) (w, drop used bytes) e in
    let value : v ≡ w = ap (λ (p : ℤ × List ℕ). p.0) both in
    let left : rest ≡ drop used bytes = ap (λ (p : ℤ × List ℕ). p.1) both in
    let all = ap length split ∙ length-append (encoding v) rest in
    let after = ap length left ∙ length-drop used bytes in
    let count : used ≡ length (encoding v) = omega arith in
    rw (← value, count) refl
given_again bytes (Err d) v rest split e = absurd cc

pub is_again32 : (bytes : List ℕ) (result : Result (ℤ × ℕ) VarintError) → Gives bytes result (varint_at bytes) → (v : ℤ) (rest : List ℕ) → FitsSigned w32 v → bytes ≡ encoding v ++ rest → result ≡ Ok (v, length (encoding v))
is_again32 bytes result given v rest fits split = given_again bytes result v rest split (subst (λ (read : Read ℤ). Gives bytes result read) (ap varint_at split ∙ i32_again v rest fits) given)

pub is_again64 : (bytes : List ℕ) (result : Result (ℤ × ℕ) VarintError) → Gives bytes result (varlong_at bytes) → (v : ℤ) (rest : List ℕ) → FitsSigned w64 v → bytes ≡ encoding v ++ rest → result ≡ Ok (v, length (encoding v))
is_again64 bytes result given v rest fits split = given_again bytes result v rest split (subst (λ (read : Read ℤ). Gives bytes result read) (ap varlong_at split ∙ i64_again v rest fits) given)

-- a reader refuses with the fault that its definition has
given_fault : (bytes : List ℕ) (result : Result (ℤ × ℕ) VarintError) (read : Read ℕ) (e : VarintError) (P : Type 0) → Gives bytes result (signed read) → (read ≡ fault e) ↔ P → IsErrOf result e ↔ P
given_fault bytes (Ok (v, used)) (Ok (n, rest)) e P given exactly = (λ h. absurd cc, λ p. let no = exactly.1 p in absurd cc)
given_fault bytes (Ok (v, used)) (Err d) e P given exactly = let no = given.1 in absurd cc
given_fault bytes (Err d) (Ok (n, rest)) e P given exactly = absurd cc
given_fault bytes (Err d) (Err f) e P given exactly = (λ h. exactly.0 (let same : f ≡ e = cc in ap fault same), λ p. let no = exactly.1 p in let same : d ≡ e = cc in rw same refl)

abbrev Refusals : ℕ → ℕ → List ℕ → Result (ℤ × ℕ) VarintError → Type 0
Refusals most top bytes result = (IsErrOf result Short ↔ IsShort most bytes) × (IsErrOf result TooLong ↔ IsTooLong most top bytes) × (IsErrOf result NotShortest ↔ IsNotShortest most top bytes)

pub refusals32 : (bytes : List ℕ) (result : Result (ℤ × ℕ) VarintError) → Gives bytes result (varint_at bytes) → Refusals 5 0x0f bytes result
unfolding varint_at
refusals32 bytes result given =
    let exactly = refused 4 0x0f 0xffff_ffff bytes (omega arith, (omega arith, (omega arith, (omega arith, (refl, omega arith))))) in
    (given_fault bytes result _ Short _ given exactly.0, given_fault bytes result _ TooLong _ given exactly.1, given_fault bytes result _ NotShortest _ given exactly.2)

pub refusals64 : (bytes : List ℕ) (result : Result (ℤ × ℕ) VarintError) → Gives bytes result (varlong_at bytes) → Refusals 10 0x01 bytes result
unfolding varlong_at
refusals64 bytes result given =
    let exactly = refused 9 0x01 0xffff_ffff_ffff_ffff bytes (omega arith, (omega arith, (omega arith, (omega arith, (omega arith, (omega arith, (omega arith, (omega arith, (omega arith, (refl, omega arith)))))))))) in
    (given_fault bytes result _ Short _ given exactly.0, given_fault bytes result _ TooLong _ given exactly.1, given_fault bytes result _ NotShortest _ given exactly.2)
