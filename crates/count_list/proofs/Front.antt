-- The first counts let go of: what the blocks hold then, and what stands before each.
use Rattle.std.proofs.Common.{◌≡◌, ℕ, zero, suc, ◌+◌, ◌-◌, ◌<◌, ◌≤◌, ◌^◌, List, [], ◌∷◌, ◌++◌, length, get_or, take, drop, map, set, refl, sym, ap, ◌∙◌, arith, length-drop}
use Rattle.std.proofs.lemmas.List.{get_or_read, get_or-drop}
use lib.Seq.{drop-append-le, drop-append-add}
use Rattle.std.specs.List.{sum_by}
use Rattle.std.proofs.lemmas.List.Sums.{sum_by-cons}
use Rattle.count_list.proofs.PutBack.{changed}
use Rattle.count_list.proofs.Edited.{starts_fit}
use Rattle.count_list.specs.Blocks.{joined, running, IsIn}

-- ---- the blocks from one on, whose front is cut

joined_cut : (bs : List (List ℕ)) (k j : ℕ) → k < length bs → j ≤ length (get_or bs k [])
    → joined (set (drop k bs) 0 (drop j (get_or (drop k bs) 0 []))) ≡ drop (sum_by length (take k bs) + j) (joined bs)
joined_cut [] k j lt le = absurd (omega arith)
joined_cut (b ∷ bs) zero j lt le = sym (drop-append-le j b (joined bs) le) ∙ ap (λ (n : ℕ). drop n (b ++ joined bs)) (omega arith)
joined_cut (b ∷ bs) (suc k) j lt le =
    let sum : length b + (sum_by length (take k bs) + j) ≡ sum_by length (b ∷ take k bs) + j = omega (arith, sum_by-cons length b (take k bs)) in
    joined_cut bs k j (omega arith) le ∙ sym (drop-append-add b (joined bs) (sum_by length (take k bs) + j)) ∙ ap (λ (n : ℕ). drop n (b ++ joined bs)) sum

running_fewer : (f : List ℕ → ℕ) (n m fewer : ℕ) (bs : List (List ℕ)) → m ≡ n + fewer → running f n bs ≡ map (λ s. (s - fewer) + 0) (running f m bs)
running_fewer f n m fewer [] is = refl
running_fewer f n m fewer (b ∷ bs) is =
    let first : n ≡ (m - fewer) + 0 = omega arith in
    λ i. first i ∷ running_fewer f (n + f b) (m + f b) fewer bs (omega arith) i

running_cut : (f : List ℕ → ℕ) (n fewer : ℕ) (bs : List (List ℕ)) (k : ℕ) (c : List ℕ) → k < length bs → fewer + f c ≡ (n + sum_by f (take k bs)) + f (get_or bs k []) → n + sum_by f (take k bs) ≤ fewer
    → running f 0 (set (drop k bs) 0 c) ≡ map (λ s. (s - fewer) + 0) (drop k (running f n bs))
running_cut f n fewer [] k c lt is le = absurd (omega arith)
running_cut f n fewer (b ∷ bs) zero c lt is le =
    let first : 0 ≡ (n - fewer) + 0 = omega (arith, le) in
    λ i. first i ∷ running_fewer f (0 + f c) (n + f b) fewer bs (omega (arith, is)) i
running_cut f n fewer (b ∷ bs) (suc k) c lt is le =
    running_cut f (n + f b) fewer bs k c (omega arith) (omega (arith, is, sum_by-cons f b (take k bs))) (omega (arith, le, sum_by-cons f b (take k bs)))

-- ---- as code leaves the blocks and their starts

pub joined_after_cut : (bs shown held : List (List ℕ)) (k j i : ℕ) (read c : List ℕ) → bs ≡ shown → IsIn length shown k j i → held ≡ drop k bs → read ≡ get_or held 0 read → c ≡ drop j read
    → joined (set held 0 c) ≡ drop i (joined shown)
joined_after_cut bs shown held k j i read c view at left reads cut =
    let same : set held 0 c ≡ set (drop k shown) 0 (drop j (get_or (drop k shown) 0 [])) =
    changed (drop j) held (drop k shown) 0 read c (left ∙ ap (λ (y : List (List ℕ)). drop k y) view) (omega (arith, at.block, length-drop k shown)) reads cut in
    ap (λ (y : List (List ℕ)). joined y) same ∙ joined_cut shown k j at.block (omega (arith, at.within)) ∙ ap (λ (n : ℕ). drop n (joined shown)) at.sum

pub front_read : (bs shown held : List (List ℕ)) (k j : ℕ) (read c : List ℕ) → bs ≡ shown → k < length shown → held ≡ drop k bs → read ≡ get_or held 0 read → c ≡ drop j read → c ≡ drop j (get_or shown k [])
front_read bs shown held k j read c view lt left reads cut =
    let all : held ≡ drop k shown = left ∙ ap (λ (y : List (List ℕ)). drop k y) view in
    let from : read ≡ get_or shown k [] = get_or_read held 0 read (omega (arith, lt, length-drop k shown, ap (λ (y : List (List ℕ)). length y) all)) reads [] ∙ ap (λ (y : List (List ℕ)). get_or y 0 []) all
    ∙ get_or-drop k shown 0 [] ∙ first shown k in
    cut ∙ ap (λ (ys : List ℕ). drop j ys) from
  where
    first : (xs : List (List ℕ)) (k : ℕ) → get_or xs (k + 0) [] ≡ get_or xs k []
    first xs k = let none : k + 0 ≡ k = omega arith in ap (λ (n : ℕ). get_or xs n []) none

pub starts_after_cut : (f : List ℕ → ℕ) (bs shown held : List (List ℕ)) (k fewer : ℕ) (c : List ℕ) (starts later now : List ℕ) → bs ≡ shown → k < length shown → held ≡ drop k bs
    → fewer + f c ≡ sum_by f (take k shown) + f (get_or shown k []) → sum_by f (take k shown) ≤ fewer
    → starts ≡ running f 0 bs → later ≡ drop k starts → now ≡ take 0 later ++ map (λ s. (s - fewer) + 0) (drop 0 later) → now ≡ running f 0 (set held 0 c)
starts_after_cut f bs shown held k fewer c starts later now view lt left measure part is kept counts =
    let held_is : held ≡ drop k shown = left ∙ ap (λ (y : List (List ℕ)). drop k y) view in
    let all : later ≡ drop k (running f 0 shown) = kept ∙ ap (λ (ss : List ℕ). drop k ss) (is ∙ ap (λ (y : List (List ℕ)). running f 0 y) view) in
    counts ∙ ap (λ (ss : List ℕ). map (λ s. (s - fewer) + 0) ss) all ∙ sym (running_cut f 0 fewer shown k c lt (omega (arith, measure)) (omega (arith, part)))
    ∙ sym (ap (λ (y : List (List ℕ)). running f 0 (set y 0 c)) held_is)

pub cut_fits : (f : List ℕ → ℕ) (bs shown : List (List ℕ)) (k less : ℕ) (starts later : List ℕ) → starts ≡ running f 0 bs → bs ≡ shown → sum_by f shown < 2 ^ 64 → later ≡ drop k starts
    → (i d : ℕ) → i < length later → (get_or later i d - less) + 0 < 2 ^ 64
cut_fits f bs shown k less starts later is view fits kept i d lt =
    let long : length later ≡ length (drop k starts) = ap (λ (s : List ℕ). length s) kept in
    let here : get_or later i d ≡ get_or starts (k + i) d = ap (λ (s : List ℕ). get_or s i d) kept ∙ get_or-drop k starts i d in
    let bound = starts_fit f 0 0 bs shown starts is view (omega (arith, fits)) (omega arith) (k + i) d (omega (arith, lt, long, length-drop k starts)) in
    omega (arith, here, bound)
