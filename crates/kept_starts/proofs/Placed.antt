-- What a journal's head says of the one before it.
use Rattle.std.proofs.Common.{◌≡◌, ℕ, ℤ, List, ap, ◌∙◌}
use Rattle.journal.specs.declared.head.Before.{Before}

-- it is the same where each of its parts is
pub same_before : (a b : Before) → a.number ≡ b.number → a.key ≡ b.key → a.size ≡ b.size → a ≡ b
same_before a b number key size =
    ap (λ (n : ℤ). record { number = n; key = a.key; size = a.size }) number
    ∙ (ap (λ (k : List ℕ). record { number = b.number; key = k; size = a.size }) key
    ∙ ap (λ (z : ℕ). record { number = b.number; key = b.key; size = z }) size)
