-- The first elements let go of: what the blocks hold then, and where they start.
use Rattle.std.proofs.Common.{◌≡◌, ℕ, zero, suc, ◌+◌, ◌-◌, ◌<◌, ◌≤◌, List, [], ◌∷◌, ◌++◌, length, get_or, take, drop, map, set, refl, sym, ap, ◌∙◌, arith, length-append, length-drop}
use lib.Seq.{drop-append-le, drop-append-add}
use Rattle.std.specs.List.{slice_index}
use Rattle.block_list.proofs.Running.{count_more}
use Rattle.block_list.proofs.PutBack.{changed}
use Rattle.block_list.specs.Blocks.{joined, starts_of, IsIn}

-- ---- the blocks from one on, whose front is cut

joined_cut : {X : Type 0} (bs : List (List X)) (k j : ℕ) → k < length bs → j ≤ length (get_or bs k [])
    → joined (set (drop k bs) 0 (drop j (get_or (drop k bs) 0 []))) ≡ drop (length (joined (take k bs)) + j) (joined bs)
joined_cut [] k j lt le = absurd (omega arith)
joined_cut {X = X} (b ∷ bs) zero j lt le = sym (drop-append-le j b (joined bs) le) ∙ ap (λ (n : ℕ). drop n (b ++ joined bs)) (omega arith)
joined_cut (b ∷ bs) (suc k) j lt le =
    let sum : length b + (length (joined (take k bs)) + j) ≡ length (b ++ joined (take k bs)) + j = omega (arith, length-append b (joined (take k bs))) in
    joined_cut bs k j (omega arith) le ∙ sym (drop-append-add b (joined bs) (length (joined (take k bs)) + j)) ∙ ap (λ (n : ℕ). drop n (b ++ joined bs)) sum

starts_fewer : {X : Type 0} (n m fewer : ℕ) (bs : List (List X)) → m ≡ n + fewer → starts_of n bs ≡ map (λ s. s - fewer) (starts_of m bs)
starts_fewer n m fewer [] is = refl
starts_fewer n m fewer (b ∷ bs) is =
    let first : n ≡ m - fewer = omega arith in
    λ i. first i ∷ starts_fewer (n + length b) (m + length b) fewer bs (omega arith) i

starts_cut : {X : Type 0} (n fewer : ℕ) (bs : List (List X)) (k j : ℕ) → k < length bs → j ≤ length (get_or bs k []) → fewer ≡ n + (length (joined (take k bs)) + j)
    → starts_of 0 (set (drop k bs) 0 (drop j (get_or (drop k bs) 0 []))) ≡ map (λ s. s - fewer) (drop k (starts_of n bs))
starts_cut n fewer [] k j lt le is = absurd (omega arith)
starts_cut n fewer (b ∷ bs) zero j lt le is =
    let first : 0 ≡ n - fewer = omega (arith, is) in
    λ i. first i ∷ starts_fewer (0 + length (drop j b)) (n + length b) fewer bs (omega (arith, is, le, length-drop j b)) i
starts_cut n fewer (b ∷ bs) (suc k) j lt le is =
    starts_cut (n + length b) fewer bs k j (omega arith) le (omega (arith, is, length-append b (joined (take k bs))))

-- ---- as code leaves the blocks and their starts

pub count_each : (f : ℕ → ℕ) (i : ℕ) (old now : List ℕ) → i < length old → now ≡ map f (take i old) ++ drop i old
    → set now i (f (slice_index now i)) ≡ map f (take (i + 1) old) ++ drop (i + 1) old
count_each f i old now lt is =
    let from : i ≡ i - 0 = omega arith in
    let next : (i + 1) - 0 ≡ i + 1 = omega arith in
    count_more f 0 i old now (omega arith) lt (is ∙ ap (λ (n : ℕ). map f (take n old) ++ drop i old) from)
    ∙ ap (λ (n : ℕ). map f (take n old) ++ drop (i + 1) old) next

blocks_after_cut : {X : Type 0} (bs shown held : List (List X)) (k j i : ℕ) (read c : List X) → bs ≡ shown → IsIn shown k j i → held ≡ drop k bs → read ≡ get_or held 0 read → c ≡ drop j read
    → set held 0 c ≡ set (drop k shown) 0 (drop j (get_or (drop k shown) 0 []))
blocks_after_cut {X = X} bs shown held k j i read c view at left reads cut =
    changed (drop j) held (drop k shown) 0 read c (left ∙ ap (λ (y : List (List X)). drop k y) view) (omega (arith, at.block, length-drop k shown)) reads cut

pub joined_after_cut : {X : Type 0} (bs shown held : List (List X)) (k j i : ℕ) (read c : List X) → bs ≡ shown → IsIn shown k j i → held ≡ drop k bs → read ≡ get_or held 0 read → c ≡ drop j read
    → joined (set held 0 c) ≡ drop i (joined shown)
joined_after_cut {X = X} bs shown held k j i read c view at left reads cut =
    ap (λ (y : List (List X)). joined y) (blocks_after_cut bs shown held k j i read c view at left reads cut)
    ∙ joined_cut shown k j at.block (omega (arith, at.within)) ∙ ap (λ (n : ℕ). drop n (joined shown)) at.sum

pub starts_after_cut : {X : Type 0} (bs shown held : List (List X)) (k j i : ℕ) (read c : List X) (starts later now : List ℕ) → bs ≡ shown → IsIn shown k j i → held ≡ drop k bs → read ≡ get_or held 0 read
    → c ≡ drop j read → starts ≡ starts_of 0 bs → later ≡ drop k starts → now ≡ map (λ s. s - i) later → now ≡ starts_of 0 (set held 0 c)
starts_after_cut {X = X} bs shown held k j i read c starts later now view at left reads cut is kept counts =
    let all : later ≡ drop k (starts_of 0 shown) = kept ∙ ap (λ (ss : List ℕ). drop k ss) (is ∙ ap (λ (y : List (List X)). starts_of 0 y) view) in
    counts ∙ ap (λ (ss : List ℕ). map (λ s. s - i) ss) all ∙ sym (starts_cut 0 i shown k j at.block (omega (arith, at.within)) (omega (arith, at.sum)))
    ∙ sym (ap (λ (y : List (List X)). starts_of 0 y) (blocks_after_cut bs shown held k j i read c view at left reads cut))
