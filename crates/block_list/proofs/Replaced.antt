-- One element replaced: the elements in order, and where the blocks start.
use Rattle.std.proofs.Common.{◌≡◌, ℕ, zero, suc, ◌+◌, ◌-◌, ◌<◌, List, [], ◌∷◌, ◌++◌, length, get_or, take, set, refl, sym, ap, ◌∙◌, arith, length-append}
use Rattle.std.proofs.lemmas.List.{get_or_read, set-append_left, set-append_right, length-set}
use Rattle.block_list.specs.Blocks.{joined, starts_of, IsIn}

joined_set : {X : Type 0} (bs : List (List X)) (k j : ℕ) (x : X) → k < length bs → j < length (get_or bs k []) → joined (set bs k (set (get_or bs k []) j x)) ≡ set (joined bs) (length (joined (take k bs)) + j) x
joined_set [] k j x lt le = absurd (omega arith)
joined_set {X = X} (b ∷ bs) zero j x lt le = sym (set-append_left b (joined bs) j x le) ∙ ap (λ (m : ℕ). set (b ++ joined bs) m x) (omega arith)
joined_set {X = X} (b ∷ bs) (suc k) j x lt le =
    let n = length (b ++ joined (take k bs)) + j in
    let at : n - length b ≡ length (joined (take k bs)) + j = omega (arith, length-append b (joined (take k bs))) in
    ap (λ (ys : List X). b ++ ys) (joined_set bs k j x (omega arith) le ∙ sym (ap (λ (m : ℕ). set (joined bs) m x) at))
    ∙ sym (set-append_right b (joined bs) (length b) n x refl (omega (arith, length-append b (joined (take k bs)))))

pub set_in : {X : Type 0} (bs new : List (List X)) (list : List X) (k j i : ℕ) (x : X) → IsIn bs k j i → joined bs ≡ list → new ≡ set bs k (set (get_or bs k []) j x) → joined new ≡ set list i x
set_in {X = X} bs new list k j i x at view is =
    ap (λ (y : List (List X)). joined y) is ∙ joined_set bs k j x at.block at.within ∙ ap (λ (m : ℕ). set (joined bs) m x) at.sum ∙ ap (λ (ys : List X). set ys i x) view

starts_same : {X : Type 0} (n : ℕ) (bs : List (List X)) (k : ℕ) (c : List X) → k < length bs → length c ≡ length (get_or bs k []) → starts_of n (set bs k c) ≡ starts_of n bs
starts_same n [] k c lt same = absurd (omega arith)
starts_same n (b ∷ bs) zero c lt same = let next : n + length c ≡ n + length b = omega (arith, same) in ap (λ (m : ℕ). n ∷ starts_of m bs) next
starts_same n (b ∷ bs) (suc k) c lt same = ap (λ (ss : List ℕ). n ∷ ss) (starts_same (n + length b) bs k c (omega arith) same)

pub starts_after_replace : {X : Type 0} (bs shown : List (List X)) (k j : ℕ) (x : X) (read c : List X) (starts : List ℕ) → starts ≡ starts_of 0 bs → bs ≡ shown → k < length shown → read ≡ get_or bs k read → c ≡ set read j x
    → starts ≡ starts_of 0 (set bs k c)
starts_after_replace {X = X} bs shown k j x read c starts is view lt reads made =
    let block : k < length bs = omega (arith, lt, ap (λ (y : List (List X)). length y) view) in
    let same : length c ≡ length (get_or bs k []) = ap (λ (ys : List X). length ys) made ∙ length-set read j x ∙ ap (λ (ys : List X). length ys) (get_or_read bs k read block reads []) in
    is ∙ sym (starts_same 0 bs k c block same)
