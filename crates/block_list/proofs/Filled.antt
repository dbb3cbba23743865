-- A list of one block, or of none.
use Rattle.std.specs.Bool.{◌==◌}
use Rattle.std.proofs.Common.{◌≡◌, ℕ, ◌<◌, true, false, List, [], ◌∷◌, ◌++◌, length, refl, sym, ap, ◌∙◌, arith}
use Rattle.std.proofs.lemmas.List.{append-nil}
use Rattle.block_list.specs.Blocks.{joined, starts_of}

pub none_held : {X : Type 0} (xs : List X) (n : ℕ) → n ≡ length xs → true ≡ (n == 0) → [] ≡ xs
none_held [] n len zero = refl
none_held (x ∷ xs) n len zero = absurd (grind (arith, len, zero))

pub some_held : {X : Type 0} (xs : List X) (n : ℕ) → n ≡ length xs → false ≡ (n == 0) → 0 < length xs
some_held [] n len some = absurd (grind (arith, len, some))
some_held (x ∷ xs) n len some = omega arith

-- no block, and then this one
pub one_block : {X : Type 0} (before blocks : List (List X)) (b items : List X) → before ≡ [] → blocks ≡ before ++ b ∷ [] → b ≡ items → blocks ≡ items ∷ []
one_block before blocks b items none pushed is = pushed ∙ (λ i. none i ++ is i ∷ [])

pub one_start : {X : Type 0} (before starts : List ℕ) (blocks : List (List X)) (items : List X) → before ≡ [] → starts ≡ before ++ 0 ∷ [] → blocks ≡ items ∷ []
    → starts ≡ starts_of 0 blocks
one_start before starts blocks items none pushed is = pushed ∙ ap (λ (x : List ℕ). x ++ 0 ∷ []) none ∙ sym (ap (λ (x : List (List _)). starts_of 0 x) is)

pub joined_one : {X : Type 0} (blocks : List (List X)) (items : List X) → blocks ≡ items ∷ [] → joined blocks ≡ items
joined_one blocks items is = ap joined is ∙ append-nil items
