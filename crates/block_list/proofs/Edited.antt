-- Blocks that grow, and a block that is split: their elements in order, and their starts.
use Rattle.std.specs.Prelude.{if◌then◌else◌}
use Rattle.std.proofs.Common.{◌≡◌, Bool, true, false, ℕ, zero, suc, ◌+◌, ◌-◌, ◌<◌, ◌≤◌, ◌^◌, List, [], ◌∷◌, ◌++◌, length, get_or, take, drop, map, set, refl, sym, ap, ◌∙◌, arith, append_assoc, length-append, length-take, length-drop}
use Rattle.std.specs.List.{insert}
use Rattle.std.proofs.lemmas.List.{append-nil, take-append-drop, get_or_read}
use Rattle.std.proofs.lemmas.List.Concat.{flat_map-append}
use Rattle.std.proofs.lemmas.List.Edits.{insert-append_left, insert-append_right, length-insert}
use Rattle.block_list.proofs.Running.{length-starts_of, get_or-starts_of, length_more}
use Rattle.block_list.specs.Blocks.{joined, starts_of, divided, IsIn}

-- ---- one element more in a block

pub joined_insert : {X : Type 0} (bs : List (List X)) (k j : ℕ) (x : X) → k < length bs → j ≤ length (get_or bs k [])
    → joined (set bs k (insert (get_or bs k []) j x)) ≡ insert (joined bs) (length (joined (take k bs)) + j) x
joined_insert [] k j x lt le = absurd (omega arith)
joined_insert {X = X} (b ∷ bs) zero j x lt le =
    sym (insert-append_left b (joined bs) j x le) ∙ ap (λ (m : ℕ). insert (b ++ joined bs) m x) (omega arith)
joined_insert {X = X} (b ∷ bs) (suc k) j x lt le =
    let n = length (b ++ joined (take k bs)) + j in
    let at : n - length b ≡ length (joined (take k bs)) + j = omega (arith, length-append b (joined (take k bs))) in
    ap (λ (ys : List X). b ++ ys) (joined_insert bs k j x (omega arith) le ∙ sym (ap (λ (m : ℕ). insert (joined bs) m x) at))
    ∙ sym (insert-append_right b (joined bs) (length b) n x refl (omega (arith, length-append b (joined (take k bs)))))

pub insert_in : {X : Type 0} (bs : List (List X)) (k j i : ℕ) (x : X) → IsIn bs k j i → joined (set bs k (insert (get_or bs k []) j x)) ≡ insert (joined bs) i x
insert_in bs k j i x is = joined_insert bs k j x is.block (omega (arith, is.within)) ∙ ap (λ (m : ℕ). insert (joined bs) m x) is.sum

pub inserted : {X : Type 0} (bs roomy new : List (List X)) (list : List X) (k j i : ℕ) (x : X) → joined bs ≡ list → joined roomy ≡ joined bs → IsIn roomy k j i
    → new ≡ set roomy k (insert (get_or roomy k []) j x) → joined new ≡ insert list i x
inserted {X = X} bs roomy new list k j i x view same at is =
    ap (λ (y : List (List X)). joined y) is ∙ insert_in roomy k j i x at ∙ ap (λ (ys : List X). insert ys i x) (same ∙ view)

starts_shift : {X : Type 0} (n m : ℕ) (bs : List (List X)) → m ≡ n + 1 → starts_of m bs ≡ map (λ s. s + 1) (starts_of n bs)
starts_shift n m [] is = refl
starts_shift n m (b ∷ bs) is = λ i. is i ∷ starts_shift (n + length b) (m + length b) bs (omega arith) i

pub starts_grown : {X : Type 0} (n : ℕ) (bs : List (List X)) (k : ℕ) (c : List X) → k < length bs → length c ≡ length (get_or bs k []) + 1
    → starts_of n (set bs k c) ≡ take (suc k) (starts_of n bs) ++ map (λ s. s + 1) (drop (suc k) (starts_of n bs))
starts_grown n [] k c lt len = absurd (omega arith)
starts_grown n (b ∷ bs) zero c lt len = ap (λ (ss : List ℕ). n ∷ ss) (starts_shift (n + length b) (n + length c) bs (omega arith))
starts_grown n (b ∷ bs) (suc k) c lt len = ap (λ (ss : List ℕ). n ∷ ss) (starts_grown (n + length b) bs k c (omega arith) len)

-- ---- one block more at the end

pub joined_push : {X : Type 0} (bs : List (List X)) (b : List X) → joined (bs ++ b ∷ []) ≡ joined bs ++ b
joined_push {X = X} bs b = flat_map-append (λ c. c) bs (b ∷ []) ∙ ap (λ (ys : List X). joined bs ++ ys) (append-nil b)

pub starts_push : {X : Type 0} (n : ℕ) (bs : List (List X)) (b : List X) → starts_of n (bs ++ b ∷ []) ≡ starts_of n bs ++ (n + length (joined bs)) ∷ []
starts_push n [] b = ap (λ (m : ℕ). m ∷ []) (omega arith)
starts_push n (c ∷ bs) b =
    ap (λ (ss : List ℕ). n ∷ ss) (starts_push (n + length c) bs b ∙ ap (λ (m : ℕ). starts_of (n + length c) bs ++ m ∷ []) (omega (arith, length-append c (joined bs))))

-- ---- the last block grows

joined_last : {X : Type 0} (bs : List (List X)) (k : ℕ) (x : X) → length bs ≡ suc k → joined (set bs k (get_or bs k [] ++ x ∷ [])) ≡ joined bs ++ x ∷ []
joined_last [] k x len = absurd (omega arith)
joined_last {X = X} (b ∷ []) zero x len = append-nil (b ++ x ∷ []) ∙ sym (ap (λ (ys : List X). ys ++ x ∷ []) (append-nil b))
joined_last (b ∷ c ∷ bs) zero x len = absurd (omega arith)
joined_last {X = X} (b ∷ bs) (suc k) x len =
    ap (λ (ys : List X). b ++ ys) (joined_last bs k x (omega arith)) ∙ sym (append_assoc b (joined bs) (x ∷ []))

starts_last : {X : Type 0} (n : ℕ) (bs : List (List X)) (k : ℕ) (c : List X) → length bs ≡ suc k → starts_of n (set bs k c) ≡ starts_of n bs
starts_last n [] k c len = absurd (omega arith)
starts_last n (b ∷ []) zero c len = refl
starts_last n (b ∷ d ∷ bs) zero c len = absurd (omega arith)
starts_last n (b ∷ bs) (suc k) c len = ap (λ (ss : List ℕ). n ∷ ss) (starts_last (n + length b) bs k c (omega arith))

-- ---- a block that is split

pub divided_is : {X : Type 0} (h : ℕ) (bs : List (List X)) (k : ℕ) → k < length bs → insert (set bs k (take h (get_or bs k []))) (suc k) (drop h (get_or bs k [])) ≡ divided h bs k
unfolding divided
divided_is h [] k lt = absurd (omega arith)
divided_is h (b ∷ bs) zero lt = refl
divided_is {X = X} h (b ∷ bs) (suc k) lt = ap (λ (x : List (List X)). b ∷ x) (divided_is h bs k (omega arith))

pub joined_divided : {X : Type 0} (h : ℕ) (bs : List (List X)) (k : ℕ) → joined (divided h bs k) ≡ joined bs
unfolding divided
joined_divided h [] k = refl
joined_divided {X = X} h (b ∷ bs) zero = sym (append_assoc (take h b) (drop h b) (joined bs)) ∙ ap (λ (ys : List X). ys ++ joined bs) (take-append-drop h b)
joined_divided {X = X} h (b ∷ bs) (suc k) = ap (λ (ys : List X). b ++ ys) (joined_divided h bs k)

pub starts_divided : {X : Type 0} (n h : ℕ) (bs : List (List X)) (k : ℕ) → k < length bs → h ≤ length (get_or bs k [])
    → starts_of n (divided h bs k) ≡ insert (starts_of n bs) (suc k) (get_or (starts_of n bs) k 0 + h)
unfolding divided
starts_divided n h [] k lt le = absurd (omega arith)
starts_divided {X = X} n h (b ∷ bs) zero lt le =
    let first : n + length (take h b) ≡ n + h = omega (arith, length-take h b) in
    let second : (n + length (take h b)) + length (drop h b) ≡ n + length b = omega (arith, length-take h b, length-drop h b) in
    λ i. n ∷ first i ∷ starts_of (second i) bs
starts_divided n h (b ∷ bs) (suc k) lt le = ap (λ (ss : List ℕ). n ∷ ss) (starts_divided (n + length b) h bs k (omega arith) le)

length-divided : {X : Type 0} (h : ℕ) (bs : List (List X)) (k : ℕ) → k < length bs → length (divided h bs k) ≡ length bs + 1
unfolding divided
length-divided h [] k lt = absurd (omega arith)
length-divided h (b ∷ bs) zero lt = omega arith
length-divided h (b ∷ bs) (suc k) lt = omega (arith, length-divided h bs k (omega arith))

front_of : {X : Type 0} (h : ℕ) (bs : List (List X)) (k : ℕ) → k < length bs → get_or (divided h bs k) k [] ≡ take h (get_or bs k [])
unfolding divided
front_of h [] k lt = absurd (omega arith)
front_of h (b ∷ bs) zero lt = refl
front_of h (b ∷ bs) (suc k) lt = front_of h bs k (omega arith)

back_of : {X : Type 0} (h : ℕ) (bs : List (List X)) (k : ℕ) → k < length bs → get_or (divided h bs k) (suc k) [] ≡ drop h (get_or bs k [])
unfolding divided
back_of h [] k lt = absurd (omega arith)
back_of h (b ∷ bs) zero lt = refl
back_of h (b ∷ bs) (suc k) lt = back_of h bs k (omega arith)

before_front : {X : Type 0} (h : ℕ) (bs : List (List X)) (k : ℕ) → k < length bs → take k (divided h bs k) ≡ take k bs
unfolding divided
before_front h [] k lt = absurd (omega arith)
before_front h (b ∷ bs) zero lt = refl
before_front {X = X} h (b ∷ bs) (suc k) lt = ap (λ (x : List (List X)). b ∷ x) (before_front h bs k (omega arith))

pub in_front : {X : Type 0} (h k j i : ℕ) (old new : List (List X)) → IsIn old k j i → new ≡ divided h old k → h ≤ length (get_or old k []) → j < h → IsIn new k j i
in_front {X = X} h k j i old new at is le lt =
    let block : get_or new k [] ≡ take h (get_or old k []) = ap (λ (x : List (List X)). get_or x k []) is ∙ front_of h old k at.block in
    let before : take k new ≡ take k old = ap (λ (x : List (List X)). take k x) is ∙ before_front h old k at.block in
    record {
      block = omega (arith, at.block, ap (λ (x : List (List X)). length x) is, length-divided h old k at.block);
      within = omega (arith, ap (λ (ys : List X). length ys) block, length-take h (get_or old k []));
      sum = omega (arith, at.sum, ap (λ (x : List (List X)). length (joined x)) before);
    }

pub in_back : {X : Type 0} (h k back j i : ℕ) (old new : List (List X)) → IsIn old k j i → new ≡ divided h old k → back ≡ k + 1 → h ≤ j → IsIn new back (j - h) i
in_back {X = X} h k back j i old new at is next le =
    let after : back ≡ suc k = omega arith in
    let block : get_or new back [] ≡ drop h (get_or old k []) = (λ i. get_or (is i) (after i) []) ∙ back_of h old k at.block in
    let front : get_or new k [] ≡ take h (get_or old k []) = ap (λ (x : List (List X)). get_or x k []) is ∙ front_of h old k at.block in
    let before : take k new ≡ take k old = ap (λ (x : List (List X)). take k x) is ∙ before_front h old k at.block in
    let len : length new ≡ length old + 1 = ap (λ (x : List (List X)). length x) is ∙ length-divided h old k at.block in
    let one : length (joined (take back new)) ≡ length (joined (take (k + 1) new)) = ap (λ (n : ℕ). length (joined (take n new))) next in
    record {
      block = omega (arith, at.block);
      within = omega (arith, at.within, ap (λ (ys : List X). length ys) block, length-drop h (get_or old k []));
      sum = omega (arith, at.sum, at.within, one, length_more new k (omega (arith, at.block)), ap (λ (x : List (List X)). length (joined x)) before, ap (λ (ys : List X). length ys) front, length-take h (get_or old k []));
    }

-- as a push leaves them
pub pushed_in : {X : Type 0} (ok : Bool) (old new : List (List X)) (k : ℕ) (x : X) → length old ≡ k + 1 → new ≡ (if ok then set old k (get_or old k [] ++ x ∷ []) else old)
    → joined new ≡ (if ok then joined old ++ x ∷ [] else joined old)
pushed_in {X = X} true old new k x last is = ap (λ (y : List (List X)). joined y) is ∙ joined_last old k x (omega arith)
pushed_in {X = X} false old new k x last is = ap (λ (y : List (List X)). joined y) is

pub pushed_block : {X : Type 0} (ok : Bool) (old new : List (List X)) (x : X) → new ≡ (if ok then old ++ (x ∷ []) ∷ [] else old) → joined new ≡ (if ok then joined old ++ x ∷ [] else joined old)
pushed_block {X = X} true old new x is = ap (λ (y : List (List X)). joined y) is ∙ joined_push old (x ∷ [])
pushed_block {X = X} false old new x is = ap (λ (y : List (List X)). joined y) is

pub same_elements : {X : Type 0} (h k : ℕ) (old new : List (List X)) → new ≡ divided h old k → joined new ≡ joined old
same_elements {X = X} h k old new is = ap (λ (y : List (List X)). joined y) is ∙ joined_divided h old k

-- ---- bounds

pub joined_take : {X : Type 0} (bs : List (List X)) (k : ℕ) → length (joined (take k bs)) ≤ length (joined bs)
joined_take [] zero = omega arith
joined_take [] (suc k) = omega arith
joined_take (b ∷ bs) zero = omega arith
joined_take (b ∷ bs) (suc k) = omega (arith, joined_take bs k, length-append b (joined (take k bs)), length-append b (joined bs))

pub starts_long : {X : Type 0} (bs shown : List (List X)) (starts : List ℕ) → starts ≡ starts_of 0 bs → bs ≡ shown → length starts ≡ length shown
starts_long {X = X} bs shown starts is view = ap (λ (s : List ℕ). length s) is ∙ length-starts_of 0 bs ∙ ap (λ (x : List (List X)). length x) view

pub starts_fit : {X : Type 0} (bs shown : List (List X)) (starts : List ℕ) → starts ≡ starts_of 0 bs → bs ≡ shown → length (joined shown) + 1 < 2 ^ 64 → (k d : ℕ) → k < length starts → get_or starts k d + 1 < 2 ^ 64
starts_fit {X = X} bs shown starts is view fits k d lt =
    let len : length starts ≡ length bs = ap (λ (s : List ℕ). length s) is ∙ length-starts_of 0 bs in
    let total : length (joined bs) ≡ length (joined shown) = ap (λ (x : List (List X)). length (joined x)) view in
    let at : get_or starts k d ≡ 0 + length (joined (take k bs)) = ap (λ (s : List ℕ). get_or s k d) is ∙ get_or-starts_of 0 bs k d (omega arith) in
    let bound = joined_take bs k in
    omega arith

pub block_ends : {X : Type 0} (bs : List (List X)) (k : ℕ) → k < length bs → length (joined (take k bs)) + length (get_or bs k []) ≤ length (joined bs)
block_ends bs k lt = omega (arith, length_more bs k lt, joined_take bs (k + 1))

-- ---- as code leaves the blocks and their starts

pub starts_after_push : {X : Type 0} (bs shown new : List (List X)) (b : List X) (starts same now : List ℕ) (len : ℕ) → starts ≡ starts_of 0 bs → bs ≡ shown → len ≡ length (joined shown)
    → same ≡ starts → now ≡ same ++ len ∷ [] → new ≡ bs ++ b ∷ [] → now ≡ starts_of 0 new
starts_after_push {X = X} bs shown new b starts same now len is view total kept pushed more =
    let at : len ≡ 0 + length (joined bs) = omega (arith, total, ap (λ (x : List (List X)). length (joined x)) view) in
    pushed ∙ (λ i. (kept ∙ is) i ++ at i ∷ []) ∙ sym (starts_push 0 bs b) ∙ sym (ap (λ (x : List (List X)). starts_of 0 x) more)

pub starts_after_insert : {X : Type 0} (bs shown : List (List X)) (k j : ℕ) (x : X) (read c : List X) (starts same counted now : List ℕ) → starts ≡ starts_of 0 bs → bs ≡ shown → same ≡ starts
    → k < length shown → j ≤ length (get_or shown k []) → read ≡ get_or bs k read → c ≡ insert read j x
    → counted ≡ take (k + 1) same ++ map (λ s. s + 1) (drop (k + 1) same) → now ≡ counted → now ≡ starts_of 0 (set bs k c)
starts_after_insert {X = X} bs shown k j x read c starts same counted now is view kept lt le reads grown counts written =
    let next : k + 1 ≡ suc k = omega arith in
    let block : k < length bs = omega (arith, lt, ap (λ (y : List (List X)). length y) view) in
    let from : read ≡ get_or bs k [] = get_or_read bs k read block reads [] in
    let size : length read ≡ length (get_or bs k []) = ap (λ (ys : List X). length ys) from in
    let shows : length (get_or bs k []) ≡ length (get_or shown k []) = ap (λ (y : List (List X)). length (get_or y k [])) view in
    let len : length c ≡ length (get_or bs k []) + 1 = omega (arith, ap (λ (ys : List X). length ys) grown, length-insert read j x (omega arith), size) in
    written ∙ counts ∙ (λ i. take (next i) ((kept ∙ is) i) ++ map (λ s. s + 1) (drop (next i) ((kept ∙ is) i))) ∙ sym (starts_grown 0 bs k c block len)

pub starts_after_growth : {X : Type 0} (bs shown : List (List X)) (k : ℕ) (c : List X) (starts : List ℕ) → starts ≡ starts_of 0 bs → bs ≡ shown → length shown ≡ k + 1 → starts ≡ starts_of 0 (set bs k c)
starts_after_growth {X = X} bs shown k c starts is view last =
    is ∙ sym (starts_last 0 bs k c (omega (arith, last, ap (λ (y : List (List X)). length y) view)))

pub blocks_after_split : {X : Type 0} (h k : ℕ) (bs shown held new : List (List X)) (read front back : List X) → bs ≡ shown → held ≡ bs → k < length shown → read ≡ get_or held k read
    → front ≡ take h read → back ≡ drop h read → new ≡ insert (set held k front) (k + 1) back → new ≡ divided h shown k
blocks_after_split {X = X} h k bs shown held new read front back view kept lt reads first second is =
    let all : held ≡ shown = kept ∙ view in
    let next : k + 1 ≡ suc k = omega arith in
    let from : read ≡ get_or shown k [] = get_or_read held k read (omega (arith, lt, ap (λ (y : List (List X)). length y) all)) reads [] ∙ ap (λ (y : List (List X)). get_or y k []) all in
    is ∙ (λ i. insert (set (all i) k ((first ∙ ap (λ (ys : List X). take h ys) from) i)) (next i) ((second ∙ ap (λ (ys : List X). drop h ys) from) i)) ∙ divided_is h shown k lt

pub start_read : {X : Type 0} (k : ℕ) (bs shown : List (List X)) (starts held : List ℕ) (start : ℕ) → bs ≡ shown → starts ≡ starts_of 0 bs → held ≡ starts → k < length shown → start ≡ get_or held k start
    → start ≡ get_or (starts_of 0 shown) k 0
start_read {X = X} k bs shown starts held start view is kept lt reads =
    let all : held ≡ starts_of 0 shown = kept ∙ is ∙ ap (λ (y : List (List X)). starts_of 0 y) view in
    get_or_read held k start (omega (arith, lt, ap (λ (s : List ℕ). length s) all, length-starts_of 0 shown)) reads 0 ∙ ap (λ (s : List ℕ). get_or s k 0) all

pub start_fits : {X : Type 0} (h k : ℕ) (shown : List (List X)) (start : ℕ) → k < length shown → start ≡ get_or (starts_of 0 shown) k 0 → h ≤ length (get_or shown k []) → length (joined shown) < 2 ^ 64 → start + h < 2 ^ 64
start_fits h k shown start lt is le fits = omega (arith, get_or-starts_of 0 shown k 0 lt, block_ends shown k lt)

pub starts_after_split : {X : Type 0} (h k : ℕ) (bs shown new : List (List X)) (starts held now : List ℕ) (start : ℕ) → bs ≡ shown → starts ≡ starts_of 0 bs → held ≡ starts → k < length shown
    → h ≤ length (get_or shown k []) → start ≡ get_or (starts_of 0 shown) k 0 → now ≡ insert held (k + 1) (start + h) → new ≡ divided h shown k → now ≡ starts_of 0 new
starts_after_split {X = X} h k bs shown new starts held now start view is kept lt le from written split =
    let all : held ≡ starts_of 0 shown = kept ∙ is ∙ ap (λ (y : List (List X)). starts_of 0 y) view in
    let next : k + 1 ≡ suc k = omega arith in
    written ∙ (λ i. insert (all i) (next i) (from i + h)) ∙ sym (starts_divided 0 h shown k lt le) ∙ sym (ap (λ (y : List (List X)). starts_of 0 y) split)
