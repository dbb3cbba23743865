-- Where blocks start: the running lengths, and the block in which an index lies.
use Rattle.std.proofs.Common.{◌≡◌, ℕ, zero, suc, ◌+◌, ◌-◌, ◌<◌, ◌≤◌, true, false, List, [], ◌∷◌, ◌++◌, length, get_or, take, drop, map, leb, set, refl, sym, ap, subst, ◌∙◌, arith, append_assoc, length-append, length-take, length-drop}
use Rattle.std.specs.List.{slice_index}
use Rattle.std.specs.List.Sorted.{IsNonDecreasing, IsPartitionedBy, IsPartitionPoint}
use Rattle.std.proofs.lemmas.List.{take_all, take_more, map_more, drop_more, get_or_at, get_or-drop, get_or_read, set_at, length-map}
use Rattle.std.proofs.lemmas.List.Concat.{flat_map-append, get_or-flat_map}
use Rattle.block_list.specs.Blocks.{joined, starts_of, IsIn}

-- ---- each start is the length of what stands before

pub length-starts_of : {X : Type 0} (n : ℕ) (bs : List (List X)) → length (starts_of n bs) ≡ length bs
length-starts_of n [] = refl
length-starts_of n (b ∷ bs) = ap suc (length-starts_of (n + length b) bs)

pub get_or-starts_of : {X : Type 0} (n : ℕ) (bs : List (List X)) (k d : ℕ) → k < length bs → get_or (starts_of n bs) k d ≡ n + length (joined (take k bs))
get_or-starts_of n [] k d lt = absurd (omega arith)
get_or-starts_of n (b ∷ bs) zero d lt = omega arith
get_or-starts_of n (b ∷ bs) (suc k) d lt =
    omega (arith, get_or-starts_of (n + length b) bs k d (omega arith), length-append b (joined (take k bs)))

least_start : {X : Type 0} (n : ℕ) (bs : List (List X)) (k d : ℕ) → k < length bs → n ≤ get_or (starts_of n bs) k d
least_start n bs k d lt = omega (arith, get_or-starts_of n bs k d lt)

pub starts_rise : {X : Type 0} (n : ℕ) (bs : List (List X)) → IsNonDecreasing (starts_of n bs)
starts_rise n [] i j d le lt = absurd (omega arith)
starts_rise n (b ∷ bs) zero zero d le lt = omega arith
starts_rise n (b ∷ bs) zero (suc j) d le lt =
    omega (arith, least_start (n + length b) bs j d (omega (arith, length-starts_of (n + length b) bs)))
starts_rise n (b ∷ bs) (suc i) zero d le lt = absurd (omega arith)
starts_rise n (b ∷ bs) (suc i) (suc j) d le lt = starts_rise (n + length b) bs i j d (omega arith) (omega arith)

pub length_more : {X : Type 0} (bs : List (List X)) (k : ℕ) → k < length bs → length (joined (take (k + 1) bs)) ≡ length (joined (take k bs)) + length (get_or bs k [])
length_more {X = X} bs k lt =
    let c = get_or bs k [] in
    let more : length (joined (take (k + 1) bs)) ≡ length (joined (take k bs) ++ (c ++ [])) =
    ap (λ (x : List (List X)). length (joined x)) (take_more bs k [] lt) ∙ ap (λ (x : List X). length x) (flat_map-append (λ b. b) (take k bs) (c ∷ [])) in
    omega (arith, length-append (joined (take k bs)) (c ++ []), length-append c [])

-- ---- the block in which an index lies

pub is_partitioned : (starts : List ℕ) (i : ℕ) → IsNonDecreasing starts → IsPartitionedBy (λ s. leb s i) starts
is_partitioned starts i rising k m d le lt passes = grind (arith, rising k m d le lt)

pub record IsFound (starts : List ℕ) (p i : ℕ) : Type 0 where
  pub some : 1 ≤ p
  pub before : slice_index starts (p - 1) ≤ i
  pub after : (p - 1) + 1 < length starts → i < slice_index starts ((p - 1) + 1)

pub block_found : (starts : List ℕ) (i p : ℕ) → 0 < length starts → slice_index starts 0 ≡ 0 → p ≤ length starts
    → IsPartitionPoint (λ s. leb s i ≡ true) (λ s. leb s i ≡ false) starts p → IsFound starts p i
block_found starts i zero some from le point = absurd (grind (arith, point.1 0 0 (omega arith) some))
block_found starts i (suc p) some from le point = record {
  some = omega arith;
  before = grind (arith, point.0 p 0 (omega arith) (omega arith));
  after = λ lt. grind (arith, point.1 (p + 1) 0 (omega arith) (omega arith));
}

pub is_in : {X : Type 0} (bs : List (List X)) (starts : List ℕ) (k i : ℕ) → starts ≡ starts_of 0 bs → k < length starts → slice_index starts k ≤ i
    → (k + 1 < length starts → i < slice_index starts (k + 1)) → i < length (joined bs) → IsIn bs k (i - slice_index starts k) i
is_in {X = X} bs starts k i same lt before after inside =
    let len : length starts ≡ length bs = ap (λ (s : List ℕ). length s) same ∙ length-starts_of 0 bs in
    let block : k < length bs = omega arith in
    let at = ap (λ (s : List ℕ). get_or s k 0) same ∙ get_or-starts_of 0 bs k 0 block in
    let start : slice_index starts k ≡ length (joined (take k bs)) = omega arith in
    let more = length_more bs k block in
    let next : k + 1 < length bs → i < length (joined (take (k + 1) bs)) =
    λ l. omega (arith, after (omega arith), ap (λ (s : List ℕ). get_or s (k + 1) 0) same ∙ get_or-starts_of 0 bs (k + 1) 0 l) in
    let all : length bs ≤ k + 1 → length (joined (take (k + 1) bs)) ≡ length (joined bs) =
    λ le. ap (λ (x : List (List X)). length (joined x)) (take_all (k + 1) bs le) in
    record {
      block = block;
      within = grind (arith, next, all);
      sum = omega arith;
    }

pub some_start : {X : Type 0} (bs : List (List X)) (starts : List ℕ) (i : ℕ) → starts ≡ starts_of 0 bs → i < length (joined bs) → 0 < length starts
some_start [] starts i same inside = absurd (omega arith)
some_start (b ∷ bs) starts i same inside = omega (arith, ap (λ (s : List ℕ). length s) same)

pub first_start : {X : Type 0} (bs : List (List X)) (starts : List ℕ) (i : ℕ) → starts ≡ starts_of 0 bs → i < length (joined bs) → slice_index starts 0 ≡ 0
first_start [] starts i same inside = absurd (omega arith)
first_start (b ∷ bs) starts i same inside = ap (λ (s : List ℕ). get_or s 0 0) same

pub starts_rising : {X : Type 0} (bs : List (List X)) (starts : List ℕ) → starts ≡ starts_of 0 bs → IsNonDecreasing starts
starts_rising bs starts same = subst IsNonDecreasing (sym same) (starts_rise 0 bs)

pub element_in : {X : Type 0} (bs : List (List X)) (k j i : ℕ) (d : X) → IsIn bs k j i → get_or (joined bs) i d ≡ get_or (get_or bs k []) j d
element_in bs k j i d is =
    ap (λ (n : ℕ). get_or (joined bs) n d) (sym is.sum) ∙ get_or-flat_map (λ b. b) bs k j [] d is.block is.within

-- as code reads them
pub is_in_read : {X : Type 0} (bs shown : List (List X)) (starts : List ℕ) (k i start : ℕ) → starts ≡ starts_of 0 bs → k < length starts → slice_index starts k ≤ i
    → (k + 1 < length starts → i < slice_index starts (k + 1)) → i < length (joined bs) → start ≡ get_or starts k start → bs ≡ shown → IsIn shown k (i - start) i
is_in_read {X = X} bs shown starts k i start same lt before after inside read is =
    subst (λ (x : List (List X)). IsIn x k (i - start) i) is
    (subst (λ (n : ℕ). IsIn bs k (i - n) i) (sym (get_or_read starts k start lt read 0)) (is_in bs starts k i same lt before after inside))

pub element_read : {X : Type 0} (bs : List (List X)) (items list : List X) (k j i : ℕ) (x d : X) → IsIn bs k j i → ((e : List X) → items ≡ get_or bs k e) → x ≡ get_or items j x
    → joined bs ≡ list → x ≡ get_or list i d
element_read {X = X} bs items list k j i x d at block read is =
    let within : j < length items = subst (λ (ys : List X). j < length ys) (sym (block [])) at.within in
    get_or_read items j x within read d ∙ ap (λ (ys : List X). get_or ys j d) (block []) ∙ sym (element_in bs k j i d at) ∙ ap (λ (ys : List X). get_or ys i d) is

-- ---- one more before each block from some block on

pub count_here : (f : ℕ → ℕ) (from i : ℕ) (old now : List ℕ) → from ≤ i → i < length old → now ≡ take from old ++ map f (take (i - from) (drop from old)) ++ drop i old
    → (i < length now) × (slice_index now i ≡ get_or old i 0)
count_here f from i old now le lt is =
    let front = take from old ++ map f (take (i - from) (drop from old)) in
    let len : length front ≡ i =
    omega (arith, length-append (take from old) (map f (take (i - from) (drop from old))), length-take from old, length-map (take (i - from) (drop from old)) f, length-take (i - from) (drop from old), length-drop from old) in
    let split : now ≡ front ++ get_or old i 0 ∷ drop (i + 1) old = is ∙ ap (λ (ys : List ℕ). front ++ ys) (drop_more old i 0 lt) in
    let long : length now ≡ length (front ++ drop i old) = ap (λ (ys : List ℕ). length ys) is in
    (omega (arith, long, length-append front (drop i old), len, length-drop i old), ap (λ (ys : List ℕ). get_or ys i 0) split ∙ get_or_at front (get_or old i 0) (drop (i + 1) old) 0 i len)

pub count_more : (f : ℕ → ℕ) (from i : ℕ) (old now : List ℕ) → from ≤ i → i < length old → now ≡ take from old ++ map f (take (i - from) (drop from old)) ++ drop i old
    → set now i (f (slice_index now i)) ≡ take from old ++ map f (take ((i + 1) - from) (drop from old)) ++ drop (i + 1) old
count_more f from i old now le lt is =
    let front = take from old ++ map f (take (i - from) (drop from old)) in
    let x = get_or old i 0 in
    let len : length front ≡ i =
    omega (arith, length-append (take from old) (map f (take (i - from) (drop from old))), length-take from old, length-map (take (i - from) (drop from old)) f, length-take (i - from) (drop from old), length-drop from old) in
    let split : now ≡ front ++ x ∷ drop (i + 1) old = is ∙ ap (λ (ys : List ℕ). front ++ ys) (drop_more old i 0 lt) in
    let read : slice_index now i ≡ x = ap (λ (ys : List ℕ). get_or ys i 0) split ∙ get_or_at front x (drop (i + 1) old) 0 i len in
    let write : set now i (f (slice_index now i)) ≡ front ++ f x ∷ drop (i + 1) old =
    ap (λ (n : ℕ). set now i (f n)) read ∙ ap (λ (ys : List ℕ). set ys i (f x)) split ∙ set_at front x (drop (i + 1) old) (f x) i len in
    let here : get_or (drop from old) (i - from) 0 ≡ x = get_or-drop from old (i - from) 0 ∙ ap (λ (n : ℕ). get_or old n 0) (omega arith) in
    let more : map f (take ((i - from) + 1) (drop from old)) ≡ map f (take (i - from) (drop from old)) ++ f x ∷ [] =
    map_more f (drop from old) (i - from) 0 (omega (arith, length-drop from old)) ∙ ap (λ (n : ℕ). map f (take (i - from) (drop from old)) ++ f n ∷ []) here in
    let count : (i + 1) - from ≡ (i - from) + 1 = omega arith in
    write ∙ by f (take from old) (map f (take (i - from) (drop from old))) (f x) (drop (i + 1) old) ∙ sym (ap (λ (ys : List ℕ). take from old ++ ys ++ drop (i + 1) old) (ap (λ (n : ℕ). map f (take n (drop from old))) count ∙ more))
  where
    by : (f : ℕ → ℕ) (a b : List ℕ) (y : ℕ) (c : List ℕ) → (a ++ b) ++ y ∷ c ≡ (a ++ (b ++ y ∷ [])) ++ c
    by f a b y c = simp (append_assoc) refl
