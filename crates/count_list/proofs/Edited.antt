-- Blocks that change, and a block that is split: their counts in order, and what stands before each.
use Rattle.std.specs.Prelude.{if◌then◌else◌}
use Rattle.std.proofs.Common.{◌≡◌, Bool, true, false, ℕ, zero, suc, ◌+◌, ◌-◌, ◌<◌, ◌≤◌, ◌^◌, List, [], ◌∷◌, ◌++◌, length, get_or, take, drop, map, set, refl, sym, ap, ◌∙◌, arith, append_assoc, length-take, length-drop}
use Rattle.std.specs.List.{insert, remove, sum, sum_by}
use Rattle.std.proofs.lemmas.List.{append-nil, take-append-drop, get_or_read, length-set, set-append_left, set-append_right}
use Rattle.std.proofs.lemmas.List.Concat.{flat_map-append}
use Rattle.std.proofs.lemmas.List.Edits.{insert-append_left, insert-append_right, remove-append_left, remove-append_right, length-insert, length-remove}
use Rattle.std.proofs.lemmas.List.Sums.{sum_by-cons, sum_by_more, sum_by-take-le, sum_by-take-drop, sum_by-insert, sum_by-remove, sum_by-set, get_or-le-sum_by}
use Rattle.count_list.proofs.Running.{length-running, get_or-running}
use Rattle.count_list.specs.Blocks.{joined, running, divided, IsIn}

-- ---- one count of a block is changed, inserted or taken out

joined_set : (bs : List (List ℕ)) (k j x : ℕ) → k < length bs → j < length (get_or bs k []) → joined (set bs k (set (get_or bs k []) j x)) ≡ set (joined bs) (sum_by length (take k bs) + j) x
joined_set [] k j x lt le = absurd (omega arith)
joined_set (b ∷ bs) zero j x lt le = sym (set-append_left b (joined bs) j x le) ∙ ap (λ (m : ℕ). set (b ++ joined bs) m x) (omega arith)
joined_set (b ∷ bs) (suc k) j x lt le =
    let n = sum_by length (b ∷ take k bs) + j in
    let at : n - length b ≡ sum_by length (take k bs) + j = omega (arith, sum_by-cons length b (take k bs)) in
    ap (λ (ys : List ℕ). b ++ ys) (joined_set bs k j x (omega arith) le ∙ sym (ap (λ (m : ℕ). set (joined bs) m x) at))
    ∙ sym (set-append_right b (joined bs) (length b) n x refl (omega (arith, sum_by-cons length b (take k bs))))

pub set_in : (bs : List (List ℕ)) (k j i x : ℕ) → IsIn length bs k j i → joined (set bs k (set (get_or bs k []) j x)) ≡ set (joined bs) i x
set_in bs k j i x is = joined_set bs k j x is.block is.within ∙ ap (λ (m : ℕ). set (joined bs) m x) is.sum

joined_insert : (bs : List (List ℕ)) (k j x : ℕ) → k < length bs → j ≤ length (get_or bs k []) → joined (set bs k (insert (get_or bs k []) j x)) ≡ insert (joined bs) (sum_by length (take k bs) + j) x
joined_insert [] k j x lt le = absurd (omega arith)
joined_insert (b ∷ bs) zero j x lt le =
    sym (insert-append_left b (joined bs) j x le) ∙ ap (λ (m : ℕ). insert (b ++ joined bs) m x) (omega arith)
joined_insert (b ∷ bs) (suc k) j x lt le =
    let n = sum_by length (b ∷ take k bs) + j in
    let at : n - length b ≡ sum_by length (take k bs) + j = omega (arith, sum_by-cons length b (take k bs)) in
    ap (λ (ys : List ℕ). b ++ ys) (joined_insert bs k j x (omega arith) le ∙ sym (ap (λ (m : ℕ). insert (joined bs) m x) at))
    ∙ sym (insert-append_right b (joined bs) (length b) n x refl (omega (arith, sum_by-cons length b (take k bs))))

pub insert_in : (bs : List (List ℕ)) (k j i x : ℕ) → IsIn length bs k j i → joined (set bs k (insert (get_or bs k []) j x)) ≡ insert (joined bs) i x
insert_in bs k j i x is = joined_insert bs k j x is.block (omega (arith, is.within)) ∙ ap (λ (m : ℕ). insert (joined bs) m x) is.sum

joined_remove : (bs : List (List ℕ)) (k j : ℕ) → k < length bs → j < length (get_or bs k []) → joined (set bs k (remove (get_or bs k []) j)) ≡ remove (joined bs) (sum_by length (take k bs) + j)
joined_remove [] k j lt le = absurd (omega arith)
joined_remove (b ∷ bs) zero j lt le = sym (remove-append_left b (joined bs) j le) ∙ ap (λ (m : ℕ). remove (b ++ joined bs) m) (omega arith)
joined_remove (b ∷ bs) (suc k) j lt le =
    let n = sum_by length (b ∷ take k bs) + j in
    let at : n - length b ≡ sum_by length (take k bs) + j = omega (arith, sum_by-cons length b (take k bs)) in
    ap (λ (ys : List ℕ). b ++ ys) (joined_remove bs k j (omega arith) le ∙ sym (ap (λ (m : ℕ). remove (joined bs) m) at))
    ∙ sym (remove-append_right b (joined bs) (length b) n refl (omega (arith, sum_by-cons length b (take k bs))))

pub remove_in : (bs : List (List ℕ)) (k j i : ℕ) → IsIn length bs k j i → joined (set bs k (remove (get_or bs k []) j)) ≡ remove (joined bs) i
remove_in bs k j i is = joined_remove bs k j is.block is.within ∙ ap (λ (m : ℕ). remove (joined bs) m) is.sum

pub inserted : (bs roomy new : List (List ℕ)) (list : List ℕ) (k j i x : ℕ) → joined bs ≡ list → joined roomy ≡ joined bs → IsIn length roomy k j i
    → new ≡ set roomy k (insert (get_or roomy k []) j x) → joined new ≡ insert list i x
inserted bs roomy new list k j i x view same at is =
    ap (λ (y : List (List ℕ)). joined y) is ∙ insert_in roomy k j i x at ∙ ap (λ (ys : List ℕ). insert ys i x) (same ∙ view)

-- ---- the measure of one block changes

running_shift : (f : List ℕ → ℕ) (n m less more : ℕ) (bs : List (List ℕ)) → m + less ≡ n + more → less ≤ n → running f m bs ≡ map (λ s. (s - less) + more) (running f n bs)
running_shift f n m less more [] is le = refl
running_shift f n m less more (b ∷ bs) is le =
    let first : m ≡ (n - less) + more = omega (arith, is, le) in
    λ i. first i ∷ running_shift f (n + f b) (m + f b) less more bs (omega (arith, is)) (omega (arith, le)) i

pub running_set : (f : List ℕ → ℕ) (n less more : ℕ) (bs : List (List ℕ)) (k : ℕ) (c : List ℕ) → k < length bs → f c + less ≡ f (get_or bs k []) + more → less ≤ f (get_or bs k [])
    → running f n (set bs k c) ≡ take (suc k) (running f n bs) ++ map (λ s. (s - less) + more) (drop (suc k) (running f n bs))
running_set f n less more [] k c lt is le = absurd (omega arith)
running_set f n less more (b ∷ bs) zero c lt is le = ap (λ (ss : List ℕ). n ∷ ss) (running_shift f (n + f b) (n + f c) less more bs (omega (arith, is)) (omega (arith, le)))
running_set f n less more (b ∷ bs) (suc k) c lt is le = ap (λ (ss : List ℕ). n ∷ ss) (running_set f (n + f b) less more bs k c (omega arith) is le)

-- ---- one block more at the end

pub joined_push : (bs : List (List ℕ)) (b : List ℕ) → joined (bs ++ b ∷ []) ≡ joined bs ++ b
joined_push bs b = flat_map-append (λ c. c) bs (b ∷ []) ∙ ap (λ (ys : List ℕ). joined bs ++ ys) (append-nil b)

pub running_push : (f : List ℕ → ℕ) (n : ℕ) (bs : List (List ℕ)) (b : List ℕ) → running f n (bs ++ b ∷ []) ≡ running f n bs ++ (n + sum_by f bs) ∷ []
running_push f n [] b = ap (λ (m : ℕ). m ∷ []) (omega arith)
running_push f n (c ∷ bs) b =
    ap (λ (ss : List ℕ). n ∷ ss) (running_push f (n + f c) bs b ∙ ap (λ (m : ℕ). running f (n + f c) bs ++ m ∷ []) (omega (arith, sum_by-cons f c bs)))

-- ---- the last block grows

joined_last : (bs : List (List ℕ)) (k x : ℕ) → length bs ≡ suc k → joined (set bs k (get_or bs k [] ++ x ∷ [])) ≡ joined bs ++ x ∷ []
joined_last [] k x len = absurd (omega arith)
joined_last (b ∷ []) zero x len = append-nil (b ++ x ∷ []) ∙ sym (ap (λ (ys : List ℕ). ys ++ x ∷ []) (append-nil b))
joined_last (b ∷ c ∷ bs) zero x len = absurd (omega arith)
joined_last (b ∷ bs) (suc k) x len =
    ap (λ (ys : List ℕ). b ++ ys) (joined_last bs k x (omega arith)) ∙ sym (append_assoc b (joined bs) (x ∷ []))

running_last : (f : List ℕ → ℕ) (n : ℕ) (bs : List (List ℕ)) (k : ℕ) (c : List ℕ) → length bs ≡ suc k → running f n (set bs k c) ≡ running f n bs
running_last f n [] k c len = absurd (omega arith)
running_last f n (b ∷ []) zero c len = refl
running_last f n (b ∷ d ∷ bs) zero c len = absurd (omega arith)
running_last f n (b ∷ bs) (suc k) c len = ap (λ (ss : List ℕ). n ∷ ss) (running_last f (n + f b) bs k c (omega arith))

-- ---- a block that is split

pub divided_is : (h : ℕ) (bs : List (List ℕ)) (k : ℕ) → k < length bs → insert (set bs k (take h (get_or bs k []))) (suc k) (drop h (get_or bs k [])) ≡ divided h bs k
unfolding divided
divided_is h [] k lt = absurd (omega arith)
divided_is h (b ∷ bs) zero lt = refl
divided_is h (b ∷ bs) (suc k) lt = ap (λ (x : List (List ℕ)). b ∷ x) (divided_is h bs k (omega arith))

pub joined_divided : (h : ℕ) (bs : List (List ℕ)) (k : ℕ) → joined (divided h bs k) ≡ joined bs
unfolding divided
joined_divided h [] k = refl
joined_divided h (b ∷ bs) zero = sym (append_assoc (take h b) (drop h b) (joined bs)) ∙ ap (λ (ys : List ℕ). ys ++ joined bs) (take-append-drop h b)
joined_divided h (b ∷ bs) (suc k) = ap (λ (ys : List ℕ). b ++ ys) (joined_divided h bs k)

pub running_divided : (f : List ℕ → ℕ) (n h : ℕ) (bs : List (List ℕ)) (k : ℕ) → k < length bs → ((b : List ℕ) → f (take h b) + f (drop h b) ≡ f b)
    → running f n (divided h bs k) ≡ insert (running f n bs) (suc k) (get_or (running f n bs) k 0 + f (take h (get_or bs k [])))
unfolding divided
running_divided f n h [] k lt parts = absurd (omega arith)
running_divided f n h (b ∷ bs) zero lt parts =
    let second : (n + f (take h b)) + f (drop h b) ≡ n + f b = omega (arith, parts b) in
    λ i. n ∷ (n + f (take h b)) ∷ running f (second i) bs
running_divided f n h (b ∷ bs) (suc k) lt parts = ap (λ (ss : List ℕ). n ∷ ss) (running_divided f (n + f b) h bs k (omega arith) parts)

length-divided : (h : ℕ) (bs : List (List ℕ)) (k : ℕ) → k < length bs → length (divided h bs k) ≡ length bs + 1
unfolding divided
length-divided h [] k lt = absurd (omega arith)
length-divided h (b ∷ bs) zero lt = omega arith
length-divided h (b ∷ bs) (suc k) lt = omega (arith, length-divided h bs k (omega arith))

front_of : (h : ℕ) (bs : List (List ℕ)) (k : ℕ) → k < length bs → get_or (divided h bs k) k [] ≡ take h (get_or bs k [])
unfolding divided
front_of h [] k lt = absurd (omega arith)
front_of h (b ∷ bs) zero lt = refl
front_of h (b ∷ bs) (suc k) lt = front_of h bs k (omega arith)

back_of : (h : ℕ) (bs : List (List ℕ)) (k : ℕ) → k < length bs → get_or (divided h bs k) (suc k) [] ≡ drop h (get_or bs k [])
unfolding divided
back_of h [] k lt = absurd (omega arith)
back_of h (b ∷ bs) zero lt = refl
back_of h (b ∷ bs) (suc k) lt = back_of h bs k (omega arith)

before_front : (h : ℕ) (bs : List (List ℕ)) (k : ℕ) → k < length bs → take k (divided h bs k) ≡ take k bs
unfolding divided
before_front h [] k lt = absurd (omega arith)
before_front h (b ∷ bs) zero lt = refl
before_front h (b ∷ bs) (suc k) lt = ap (λ (x : List (List ℕ)). b ∷ x) (before_front h bs k (omega arith))

pub in_front : (h k j i : ℕ) (old new : List (List ℕ)) → IsIn length old k j i → new ≡ divided h old k → h ≤ length (get_or old k []) → j < h → IsIn length new k j i
in_front h k j i old new at is le lt =
    let block : get_or new k [] ≡ take h (get_or old k []) = ap (λ (x : List (List ℕ)). get_or x k []) is ∙ front_of h old k at.block in
    let before : take k new ≡ take k old = ap (λ (x : List (List ℕ)). take k x) is ∙ before_front h old k at.block in
    record {
      block = omega (arith, at.block, ap (λ (x : List (List ℕ)). length x) is, length-divided h old k at.block);
      within = omega (arith, ap (λ (ys : List ℕ). length ys) block, length-take h (get_or old k []));
      sum = omega (arith, at.sum, ap (λ (x : List (List ℕ)). sum_by length x) before);
    }

pub in_back : (h k back j i : ℕ) (old new : List (List ℕ)) → IsIn length old k j i → new ≡ divided h old k → back ≡ k + 1 → h ≤ j → IsIn length new back (j - h) i
in_back h k back j i old new at is next le =
    let after : back ≡ suc k = omega arith in
    let block : get_or new back [] ≡ drop h (get_or old k []) = (λ i. get_or (is i) (after i) []) ∙ back_of h old k at.block in
    let front : get_or new k [] ≡ take h (get_or old k []) = ap (λ (x : List (List ℕ)). get_or x k []) is ∙ front_of h old k at.block in
    let before : take k new ≡ take k old = ap (λ (x : List (List ℕ)). take k x) is ∙ before_front h old k at.block in
    let len : length new ≡ length old + 1 = ap (λ (x : List (List ℕ)). length x) is ∙ length-divided h old k at.block in
    let one : sum_by length (take back new) ≡ sum_by length (take (k + 1) new) = ap (λ (n : ℕ). sum_by length (take n new)) next in
    record {
      block = omega (arith, at.block);
      within = omega (arith, at.within, ap (λ (ys : List ℕ). length ys) block, length-drop h (get_or old k []));
      sum = omega (arith, at.sum, at.within, one, sum_by_more length new k [] (omega (arith, at.block)), ap (λ (x : List (List ℕ)). sum_by length x) before, ap (λ (ys : List ℕ). length ys) front, length-take h (get_or old k []));
    }

-- as a push leaves them
pub pushed_in : (ok : Bool) (old new : List (List ℕ)) (k x : ℕ) → length old ≡ k + 1 → new ≡ (if ok then set old k (get_or old k [] ++ x ∷ []) else old)
    → joined new ≡ (if ok then joined old ++ x ∷ [] else joined old)
pushed_in true old new k x last is = ap (λ (y : List (List ℕ)). joined y) is ∙ joined_last old k x (omega arith)
pushed_in false old new k x last is = ap (λ (y : List (List ℕ)). joined y) is

pub same_counts : (h k : ℕ) (old new : List (List ℕ)) → new ≡ divided h old k → joined new ≡ joined old
same_counts h k old new is = ap (λ (y : List (List ℕ)). joined y) is ∙ joined_divided h old k

-- ---- bounds

pub starts_long : (f : List ℕ → ℕ) (bs shown : List (List ℕ)) (starts : List ℕ) → starts ≡ running f 0 bs → bs ≡ shown → length starts ≡ length shown
starts_long f bs shown starts is view = ap (λ (s : List ℕ). length s) is ∙ length-running f 0 bs ∙ ap (λ (x : List (List ℕ)). length x) view

pub starts_fit : (f : List ℕ → ℕ) (less more : ℕ) (bs shown : List (List ℕ)) (starts : List ℕ) → starts ≡ running f 0 bs → bs ≡ shown → sum_by f shown + more < 2 ^ 64 + less → more < 2 ^ 64
    → (k d : ℕ) → k < length starts → (get_or starts k d - less) + more < 2 ^ 64
starts_fit f less more bs shown starts is view fits small k d lt =
    let len : length starts ≡ length bs = ap (λ (s : List ℕ). length s) is ∙ length-running f 0 bs in
    let total : sum_by f bs ≡ sum_by f shown = ap (λ (x : List (List ℕ)). sum_by f x) view in
    let at : get_or starts k d ≡ 0 + sum_by f (take k bs) = ap (λ (s : List ℕ). get_or s k d) is ∙ get_or-running f 0 bs k d (omega arith) in
    let bound = sum_by-take-le f bs k in
    omega arith

-- ---- as code leaves the blocks and their starts

pub starts_after_push : (f : List ℕ → ℕ) (bs shown new : List (List ℕ)) (b : List ℕ) (starts same now : List ℕ) (at : ℕ) → starts ≡ running f 0 bs → bs ≡ shown → at ≡ sum_by f shown
    → same ≡ starts → now ≡ same ++ at ∷ [] → new ≡ bs ++ b ∷ [] → now ≡ running f 0 new
starts_after_push f bs shown new b starts same now at is view total kept pushed more =
    let end : at ≡ 0 + sum_by f bs = omega (arith, total, ap (λ (x : List (List ℕ)). sum_by f x) view) in
    pushed ∙ (λ i. (kept ∙ is) i ++ end i ∷ []) ∙ sym (running_push f 0 bs b) ∙ sym (ap (λ (x : List (List ℕ)). running f 0 x) more)

pub starts_after_growth : (f : List ℕ → ℕ) (bs shown : List (List ℕ)) (k : ℕ) (c : List ℕ) (starts : List ℕ) → starts ≡ running f 0 bs → bs ≡ shown → length shown ≡ k + 1 → starts ≡ running f 0 (set bs k c)
starts_after_growth f bs shown k c starts is view last =
    is ∙ sym (running_last f 0 bs k c (omega (arith, last, ap (λ (y : List (List ℕ)). length y) view)))

pub starts_after_change : (f : List ℕ → ℕ) (less more : ℕ) (bs shown : List (List ℕ)) (k : ℕ) (c : List ℕ) (starts same counted now : List ℕ) → starts ≡ running f 0 bs → bs ≡ shown → same ≡ starts
    → k < length shown → f c + less ≡ f (get_or shown k []) + more → less ≤ f (get_or shown k [])
    → counted ≡ take (k + 1) same ++ map (λ s. (s - less) + more) (drop (k + 1) same) → now ≡ counted → now ≡ running f 0 (set bs k c)
starts_after_change f less more bs shown k c starts same counted now is view kept lt measure part counts written =
    let next : k + 1 ≡ suc k = omega arith in
    let block : k < length bs = omega (arith, lt, ap (λ (y : List (List ℕ)). length y) view) in
    let shows : f (get_or bs k []) ≡ f (get_or shown k []) = ap (λ (y : List (List ℕ)). f (get_or y k [])) view in
    written ∙ counts ∙ (λ i. take (next i) ((kept ∙ is) i) ++ map (λ s. (s - less) + more) (drop (next i) ((kept ∙ is) i)))
    ∙ sym (running_set f 0 less more bs k c block (omega (arith, measure, shows)) (omega (arith, part, shows)))

pub blocks_after_split : (h k : ℕ) (bs shown held new : List (List ℕ)) (read front back : List ℕ) → bs ≡ shown → held ≡ bs → k < length shown → read ≡ get_or held k read
    → front ≡ take h read → back ≡ drop h read → new ≡ insert (set held k front) (k + 1) back → new ≡ divided h shown k
blocks_after_split h k bs shown held new read front back view kept lt reads first second is =
    let all : held ≡ shown = kept ∙ view in
    let next : k + 1 ≡ suc k = omega arith in
    let from : read ≡ get_or shown k [] = get_or_read held k read (omega (arith, lt, ap (λ (y : List (List ℕ)). length y) all)) reads [] ∙ ap (λ (y : List (List ℕ)). get_or y k []) all in
    is ∙ (λ i. insert (set (all i) k ((first ∙ ap (λ (ys : List ℕ). take h ys) from) i)) (next i) ((second ∙ ap (λ (ys : List ℕ). drop h ys) from) i)) ∙ divided_is h shown k lt

pub starts_after_split : (f : List ℕ → ℕ) (h k : ℕ) (bs shown new : List (List ℕ)) (starts held now : List ℕ) (start : ℕ) → bs ≡ shown → starts ≡ running f 0 bs → held ≡ starts → k < length shown
    → ((b : List ℕ) → f (take h b) + f (drop h b) ≡ f b) → start ≡ sum_by f (take k shown) + f (take h (get_or shown k [])) → now ≡ insert held (k + 1) start → new ≡ divided h shown k → now ≡ running f 0 new
starts_after_split f h k bs shown new starts held now start view is kept lt parts from written split =
    let all : held ≡ running f 0 shown = kept ∙ is ∙ ap (λ (y : List (List ℕ)). running f 0 y) view in
    let next : k + 1 ≡ suc k = omega arith in
    let at : start ≡ get_or (running f 0 shown) k 0 + f (take h (get_or shown k [])) = omega (arith, from, get_or-running f 0 shown k 0 lt) in
    written ∙ (λ i. insert (all i) (next i) (at i)) ∙ sym (running_divided f 0 h shown k lt parts) ∙ sym (ap (λ (y : List (List ℕ)). running f 0 y) split)

-- the two parts of a list
pub length_parts : (h : ℕ) (b : List ℕ) → length (take h b) + length (drop h b) ≡ length b
length_parts h b = omega (arith, length-take h b, length-drop h b)

pub sum_parts : (h : ℕ) (b : List ℕ) → sum (take h b) + sum (drop h b) ≡ sum b
sum_parts h b = sum_by-take-drop (λ x. x) b h

-- ---- what a change does to a block's length and sum

running_same : (f : List ℕ → ℕ) (n : ℕ) (bs : List (List ℕ)) (k : ℕ) (c : List ℕ) → k < length bs → f c ≡ f (get_or bs k []) → running f n (set bs k c) ≡ running f n bs
running_same f n [] k c lt same = absurd (omega arith)
running_same f n (b ∷ bs) zero c lt same = let next : n + f c ≡ n + f b = omega (arith, same) in ap (λ (m : ℕ). n ∷ running f m bs) next
running_same f n (b ∷ bs) (suc k) c lt same = ap (λ (ss : List ℕ). n ∷ ss) (running_same f (n + f b) bs k c (omega arith) same)

pub starts_after_set : (f : List ℕ → ℕ) (bs shown : List (List ℕ)) (k : ℕ) (c : List ℕ) (starts : List ℕ) → starts ≡ running f 0 bs → bs ≡ shown → k < length shown → f c ≡ f (get_or shown k []) → starts ≡ running f 0 (set bs k c)
starts_after_set f bs shown k c starts is view lt same =
    let shows : f (get_or bs k []) ≡ f (get_or shown k []) = ap (λ (y : List (List ℕ)). f (get_or y k [])) view in
    is ∙ sym (running_same f 0 bs k c (omega (arith, lt, ap (λ (y : List (List ℕ)). length y) view)) (omega (arith, same, shows)))

pub length_set : (b read c : List ℕ) (j n : ℕ) → read ≡ b → c ≡ set read j n → length c ≡ length b
length_set b read c j n reads is = ap (λ (xs : List ℕ). length xs) is ∙ length-set read j n ∙ ap (λ (xs : List ℕ). length xs) reads

pub sum_set : (b read c : List ℕ) (j n less : ℕ) → read ≡ b → c ≡ set read j n → j < length b → less ≡ get_or b j 0 → sum c + less ≡ sum b + n
sum_set b read c j n less reads is lt taken =
    omega (arith, ap (λ (xs : List ℕ). sum xs) is, ap (λ (xs : List ℕ). sum (set xs j n)) reads, sum_by-set (λ x. x) b j n 0 lt, taken)

pub length_inserted : (b read c : List ℕ) (j n : ℕ) → read ≡ b → c ≡ insert read j n → j ≤ length b → length c + 0 ≡ length b + 1
length_inserted b read c j n reads is le = omega (arith, ap (λ (xs : List ℕ). length xs) is, ap (λ (xs : List ℕ). length (insert xs j n)) reads, length-insert b j n le)

pub sum_inserted : (b read c : List ℕ) (j n : ℕ) → read ≡ b → c ≡ insert read j n → sum c + 0 ≡ sum b + n
sum_inserted b read c j n reads is = omega (arith, ap (λ (xs : List ℕ). sum xs) is, ap (λ (xs : List ℕ). sum (insert xs j n)) reads, sum_by-insert (λ x. x) b j n)

pub length_removed : (b read c : List ℕ) (j : ℕ) → read ≡ b → c ≡ remove read j → j < length b → length c + 1 ≡ length b + 0
length_removed b read c j reads is lt = omega (arith, ap (λ (xs : List ℕ). length xs) is, ap (λ (xs : List ℕ). length (remove xs j)) reads, length-remove b j lt)

pub sum_removed : (b read c : List ℕ) (j less : ℕ) → read ≡ b → c ≡ remove read j → j < length b → less ≡ get_or b j 0 → sum c + less ≡ sum b + 0
sum_removed b read c j less reads is lt taken =
    omega (arith, ap (λ (xs : List ℕ). sum xs) is, ap (λ (xs : List ℕ). sum (remove xs j)) reads, sum_by-remove (λ x. x) b j 0 lt, taken)

pub least_sum : (b : List ℕ) (j less : ℕ) → j < length b → less ≡ get_or b j 0 → less ≤ sum b
least_sum b j less lt taken = omega (arith, get_or-le-sum_by (λ x. x) b j 0 lt, taken)
