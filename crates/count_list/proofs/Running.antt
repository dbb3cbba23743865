-- What stands before blocks: the running sums of a measure, and the block into which a number falls.
use Rattle.std.proofs.Common.{◌≡◌, ℕ, zero, suc, ◌+◌, ◌-◌, ◌<◌, ◌≤◌, ◌^◌, true, false, List, [], ◌∷◌, ◌++◌, length, get_or, take, leb, refl, sym, ap, subst, ◌∙◌, arith, append_assoc, length-append}
use Rattle.std.specs.List.{slice_index, sum_by, sum}
use Rattle.std.specs.List.Sorted.{IsNonDecreasing, IsPartitionedBy, IsPartitionPoint}
use Rattle.std.proofs.lemmas.List.{take_all, take-append-le, get_or_read}
use Rattle.std.proofs.lemmas.List.Concat.{get_or-flat_map}
use Rattle.std.proofs.lemmas.List.Sums.{sum_by-cons, sum_by-append, sum_by_more, sum_by-take-le}
use Rattle.count_list.specs.Blocks.{joined, running, IsIn}

-- ---- the measure of all

pub length_joined : (bs : List (List ℕ)) → length (joined bs) ≡ sum_by length bs
length_joined [] = refl
length_joined (b ∷ bs) = omega (arith, length_joined bs, length-append b (joined bs), sum_by-cons length b bs)

pub sum_joined : (bs : List (List ℕ)) → sum (joined bs) ≡ sum_by sum bs
sum_joined [] = refl
sum_joined (b ∷ bs) = omega (arith, sum_joined bs, sum_by-append (λ x. x) b (joined bs), sum_by-cons sum b bs)

-- ---- each start is the measure of what stands before

pub length-running : (f : List ℕ → ℕ) (n : ℕ) (bs : List (List ℕ)) → length (running f n bs) ≡ length bs
length-running f n [] = refl
length-running f n (b ∷ bs) = ap suc (length-running f (n + f b) bs)

pub get_or-running : (f : List ℕ → ℕ) (n : ℕ) (bs : List (List ℕ)) (k d : ℕ) → k < length bs → get_or (running f n bs) k d ≡ n + sum_by f (take k bs)
get_or-running f n [] k d lt = absurd (omega arith)
get_or-running f n (b ∷ bs) zero d lt = omega arith
get_or-running f n (b ∷ bs) (suc k) d lt =
    omega (arith, get_or-running f (n + f b) bs k d (omega arith), sum_by-cons f b (take k bs))

least_start : (f : List ℕ → ℕ) (n : ℕ) (bs : List (List ℕ)) (k d : ℕ) → k < length bs → n ≤ get_or (running f n bs) k d
least_start f n bs k d lt = omega (arith, get_or-running f n bs k d lt)

pub starts_rise : (f : List ℕ → ℕ) (n : ℕ) (bs : List (List ℕ)) → IsNonDecreasing (running f n bs)
starts_rise f n [] i j d le lt = absurd (omega arith)
starts_rise f n (b ∷ bs) zero zero d le lt = omega arith
starts_rise f n (b ∷ bs) zero (suc j) d le lt =
    omega (arith, least_start f (n + f b) bs j d (omega (arith, length-running f (n + f b) bs)))
starts_rise f n (b ∷ bs) (suc i) zero d le lt = absurd (omega arith)
starts_rise f n (b ∷ bs) (suc i) (suc j) d le lt = starts_rise f (n + f b) bs i j d (omega arith) (omega arith)

-- ---- the block into which a number falls

pub is_partitioned : (starts : List ℕ) (i : ℕ) → IsNonDecreasing starts → IsPartitionedBy (λ s. leb s i) starts
is_partitioned starts i rising k m d le lt passes = grind (arith, rising k m d le lt)

pub record IsFound (starts : List ℕ) (p i : ℕ) : Type 0 where
  pub some : 1 ≤ p
  pub before : slice_index starts (p - 1) ≤ i
  pub after : (p - 1) + 1 < length starts → i < slice_index starts ((p - 1) + 1)

pub block_found : (starts : List ℕ) (i p : ℕ) → 0 < length starts → slice_index starts 0 ≡ 0 → p ≤ length starts
    → IsPartitionPoint (λ s. leb s i ≡ true) (λ s. leb s i ≡ false) starts p → IsFound starts p i
block_found starts i zero some from le point = absurd (grind (arith, point.1 0 0 (omega arith) some))
block_found starts i (suc p) some from le point = record {
  some = omega arith;
  before = grind (arith, point.0 p 0 (omega arith) (omega arith));
  after = λ lt. grind (arith, point.1 (p + 1) 0 (omega arith) (omega arith));
}

is_in : (f : List ℕ → ℕ) (bs : List (List ℕ)) (starts : List ℕ) (k i : ℕ) → starts ≡ running f 0 bs → k < length starts → slice_index starts k ≤ i
    → (k + 1 < length starts → i < slice_index starts (k + 1)) → i < sum_by f bs → IsIn f bs k (i - slice_index starts k) i
is_in f bs starts k i same lt before after inside =
    let len : length starts ≡ length bs = ap (λ (s : List ℕ). length s) same ∙ length-running f 0 bs in
    let block : k < length bs = omega arith in
    let at = ap (λ (s : List ℕ). get_or s k 0) same ∙ get_or-running f 0 bs k 0 block in
    let start : slice_index starts k ≡ sum_by f (take k bs) = omega arith in
    let more = sum_by_more f bs k [] block in
    let next : k + 1 < length bs → i < sum_by f (take (k + 1) bs) =
    λ l. omega (arith, after (omega arith), ap (λ (s : List ℕ). get_or s (k + 1) 0) same ∙ get_or-running f 0 bs (k + 1) 0 l) in
    let all : length bs ≤ k + 1 → sum_by f (take (k + 1) bs) ≡ sum_by f bs =
    λ le. ap (λ (x : List (List ℕ)). sum_by f x) (take_all (k + 1) bs le) in
    record {
      block = block;
      within = grind (arith, next, all);
      sum = omega arith;
    }

pub some_start : (f : List ℕ → ℕ) (bs : List (List ℕ)) (starts : List ℕ) (i : ℕ) → starts ≡ running f 0 bs → i < sum_by f bs → 0 < length starts
some_start f [] starts i same inside = absurd (omega arith)
some_start f (b ∷ bs) starts i same inside = omega (arith, ap (λ (s : List ℕ). length s) same)

pub first_start : (f : List ℕ → ℕ) (bs : List (List ℕ)) (starts : List ℕ) (i : ℕ) → starts ≡ running f 0 bs → i < sum_by f bs → slice_index starts 0 ≡ 0
first_start f [] starts i same inside = absurd (omega arith)
first_start f (b ∷ bs) starts i same inside = ap (λ (s : List ℕ). get_or s 0 0) same

pub starts_rising : (f : List ℕ → ℕ) (bs : List (List ℕ)) (starts : List ℕ) → starts ≡ running f 0 bs → IsNonDecreasing starts
starts_rising f bs starts same = subst IsNonDecreasing (sym same) (starts_rise f 0 bs)

-- as code reads them
pub is_in_read : (f : List ℕ → ℕ) (bs shown : List (List ℕ)) (starts : List ℕ) (k i start : ℕ) → starts ≡ running f 0 bs → k < length starts → slice_index starts k ≤ i
    → (k + 1 < length starts → i < slice_index starts (k + 1)) → i < sum_by f bs → start ≡ get_or starts k start → bs ≡ shown → IsIn f shown k (i - start) i
is_in_read f bs shown starts k i start same lt before after inside read is =
    subst (λ (x : List (List ℕ)). IsIn f x k (i - start) i) is
    (subst (λ (n : ℕ). IsIn f bs k (i - n) i) (sym (get_or_read starts k start lt read 0)) (is_in f bs starts k i same lt before after inside))

pub start_read : (f : List ℕ → ℕ) (k : ℕ) (bs shown : List (List ℕ)) (starts : List ℕ) (start : ℕ) → bs ≡ shown → starts ≡ running f 0 bs → k < length shown → start ≡ get_or starts k start
    → start ≡ sum_by f (take k shown)
start_read f k bs shown starts start view is lt reads =
    let all : starts ≡ running f 0 shown = is ∙ ap (λ (y : List (List ℕ)). running f 0 y) view in
    omega (arith, get_or_read starts k start (omega (arith, lt, ap (λ (s : List ℕ). length s) all, length-running f 0 shown)) reads 0, ap (λ (s : List ℕ). get_or s k 0) all, get_or-running f 0 shown k 0 lt)

-- ---- the list up to a count of some block

take_add : (b rest : List ℕ) (n : ℕ) → take (length b + n) (b ++ rest) ≡ b ++ take n rest
take_add [] rest n = let none : 0 + n ≡ n = omega arith in ap (λ (m : ℕ). take m rest) none
take_add (x ∷ b) rest n =
    let more : suc (length b) + n ≡ suc (length b + n) = omega arith in
    ap (λ (m : ℕ). take m (x ∷ (b ++ rest))) more ∙ ap (λ (ys : List ℕ). x ∷ ys) (take_add b rest n)

pub take_in : (bs : List (List ℕ)) (k j i : ℕ) → k < length bs → j ≤ length (get_or bs k []) → sum_by length (take k bs) + j ≡ i → take i (joined bs) ≡ joined (take k bs) ++ take j (get_or bs k [])
take_in [] k j i lt le is = absurd (omega arith)
take_in (b ∷ bs) zero j i lt le is =
    let at : i ≡ j = omega (arith, is) in
    ap (λ (n : ℕ). take n (b ++ joined bs)) at ∙ take-append-le j b (joined bs) le
take_in (b ∷ bs) (suc k) j i lt le is =
    let n = sum_by length (take k bs) + j in
    let sum : i ≡ length b + n = omega (arith, is, sum_by-cons length b (take k bs)) in
    ap (λ (m : ℕ). take m (b ++ joined bs)) sum ∙ take_add b (joined bs) n
    ∙ ap (λ (ys : List ℕ). b ++ ys) (take_in bs k j n (omega arith) le refl) ∙ sym (append_assoc b (joined (take k bs)) (take j (get_or bs k [])))

-- the sum before it
pub sum_in : (bs : List (List ℕ)) (k j i : ℕ) → k < length bs → j ≤ length (get_or bs k []) → sum_by length (take k bs) + j ≡ i → sum (take i (joined bs)) ≡ sum_by sum (take k bs) + sum (take j (get_or bs k []))
sum_in bs k j i lt le is =
    omega (arith, ap (λ (xs : List ℕ). sum xs) (take_in bs k j i lt le is), sum_by-append (λ x. x) (joined (take k bs)) (take j (get_or bs k [])), sum_joined (take k bs))

-- the count there
pub count_in : (bs : List (List ℕ)) (k j i d : ℕ) → IsIn length bs k j i → get_or (joined bs) i d ≡ get_or (get_or bs k []) j d
count_in bs k j i d is =
    ap (λ (n : ℕ). get_or (joined bs) n d) (omega (arith, is.sum, length_joined (take k bs))) ∙ get_or-flat_map (λ b. b) bs k j [] d is.block is.within

-- the end of a block is no later than the end of all
pub block_ends : (f : List ℕ → ℕ) (bs : List (List ℕ)) (k : ℕ) → k < length bs → sum_by f (take k bs) + f (get_or bs k []) ≤ sum_by f bs
block_ends f bs k lt = omega (arith, sum_by_more f bs k [] lt, sum_by-take-le f bs (k + 1))

-- ---- inside a block

pub some_left : (counts : List ℕ) (i rest n : ℕ) → sum (take i counts) + rest ≡ n → n < sum counts → i < length counts
some_left counts i rest n is inside = grind (arith, past)
  where
    past : length counts ≤ i → sum (take i counts) ≡ sum counts
    past le = ap (λ (xs : List ℕ). sum xs) (take_all i counts le)

pub record Found (bs : List (List ℕ)) (i rest n : ℕ) : Type 0 where
  pub index : i < length (joined bs)
  pub sum : sum (take i (joined bs)) + rest ≡ n
  pub rest_less : (d : ℕ) → rest < get_or (joined bs) i d

pub found_in : (bs : List (List ℕ)) (k j rest n m first : ℕ) (counts : List ℕ) → IsIn sum bs k m n → counts ≡ get_or bs k [] → j < length counts → sum (take j counts) + rest ≡ m → ((d : ℕ) → rest < get_or counts j d)
    → first ≡ sum_by length (take k bs) → Found bs (first + j) rest n
found_in bs k j rest n m first counts at here lt sums less starts =
    let long : length counts ≡ length (get_or bs k []) = ap (λ (xs : List ℕ). length xs) here in
    let part : sum (take j counts) ≡ sum (take j (get_or bs k [])) = ap (λ (xs : List ℕ). sum (take j xs)) here in
    let place : IsIn length bs k j (first + j) = record {
      block = at.block;
      within = omega (arith, lt, long);
      sum = omega (arith, starts);
    } in
    record {
      index = omega (arith, block_ends length bs k at.block, length_joined bs, lt, long, starts);
      sum = omega (arith, sum_in bs k j (first + j) at.block (omega (arith, lt, long)) (omega (arith, starts)), at.sum, sums, part);
      rest_less = λ d. subst (λ (x : ℕ). rest < x) (ap (λ (xs : List ℕ). get_or xs j d) here ∙ sym (count_in bs k j (first + j) d place)) (less d);
    }

pub before_in : (bs : List (List ℕ)) (k j i start : ℕ) (counts : List ℕ) → IsIn length bs k j i → counts ≡ get_or bs k [] → start ≡ sum_by sum (take k bs) → start + sum (take j counts) ≡ sum (take i (joined bs))
before_in bs k j i start counts at here starts =
    let part : sum (take j counts) ≡ sum (take j (get_or bs k [])) = ap (λ (xs : List ℕ). sum (take j xs)) here in
    omega (arith, sum_in bs k j i at.block (omega (arith, at.within)) at.sum, part, starts)

pub before_fits : (bs : List (List ℕ)) (i : ℕ) → sum (joined bs) < 2 ^ 64 → sum (take i (joined bs)) < 2 ^ 64
before_fits bs i fits = omega (arith, fits, sum_by-take-le (λ x. x) (joined bs) i)
