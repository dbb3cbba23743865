-- A text that is read to its end says what was read.
use Rattle.std.proofs.Common.{◌≡◌, ◌⊎◌, ℕ, ◌-◌, List, [], ◌∷◌, ◌++◌, length, take, drop, refl, sym, ap, subst, ◌∙◌, append-nil, append_assoc, arith}
use Rattle.std.proofs.lemmas.List.{take_rest}
use Rattle.script_words.specs.Escapes.{Escapes, IsItself, Says}

none_left : (rest : List ℕ) → length rest ≡ 0 → rest ≡ []
none_left [] is = refl
none_left (c ∷ rest) is = absurd (omega arith)

pub says_all : (text rest bytes : List ℕ) → length rest ≡ 0 → ((more : List ℕ) → Says rest more → Says text (bytes ++ more)) → Says text bytes
says_all text rest bytes is leads = subst (λ (b : List ℕ). Says text b) (append-nil bytes) (leads [] (none_left rest is))

pub says_none : (text bytes : List ℕ) → bytes ≡ [] → (more : List ℕ) → Says text more → Says text (bytes ++ more)
says_none text bytes none more says = subst (λ (b : List ℕ). Says text (b ++ more)) (sym none) says

-- one byte more is said by the front of what is left
pub says_more : (text rest bytes longer : List ℕ) (byte size : ℕ) → Escapes rest byte (drop size rest) ⊎ IsItself rest byte (drop size rest) → longer ≡ bytes ++ byte ∷ []
    → ((more : List ℕ) → Says rest more → Says text (bytes ++ more)) → (more : List ℕ) → Says (take (length rest - size) (drop size rest)) more → Says text (longer ++ more)
says_more text rest bytes longer byte size front pushed leads more says =
    let left : Says (drop size rest) more = subst (λ (r : List ℕ). Says r more) (take_rest rest size) says in
    let all : bytes ++ (byte ∷ more) ≡ longer ++ more = sym (ap (λ (b : List ℕ). b ++ more) pushed ∙ append_assoc bytes (byte ∷ []) more) in
    subst (λ (b : List ℕ). Says text b) all (leads (byte ∷ more) (drop size rest, front, left))
