-- What is left of some batches, where records of them may be gone.
use Rattle.std.proofs.Common.{◌≡◌, ℕ, zero, suc, ℤ, ◌+◌, ◌<◌, ◌≤◌, ◌≤ℤ◌, ◌⊎◌, inl, inr, arith, min, max, not, Bool, true, false, List, [], ◌∷◌, ◌++◌, length, drop, take, sym, ap, subst, refl, ◌∙◌}
use Rattle.std.specs.Prelude.{◌+ℤ◌, ◌-◌, int_le, nat_le, if◌then◌else◌}
use Rattle.std.specs.List.{flat_map}
use Rattle.std.proofs.lemmas.Int.{ints}
use Rattle.std.proofs.lemmas.List.{take_all}
use Rattle.batch_codec.specs.declared.head.BatchHead.{BatchHead}
use Rattle.batch_codec.specs.Values.{BatchValue}
use Rattle.batch_codec.specs.Offsets.{last_offset}
use Rattle.segment.specs.BatchLists.{first_from}
use Rattle.partition_log.specs.Lookups.{size_of, fitting, fetched}
use Rattle.log_requests.proofs.FetchRuns.{bytes_of, bytes_more}
use Rattle.fetch_waits.specs.Sleeping.{AreBehind, AreLeftOf, IsLeftOf}
use Rattle.fetch_waits.proofs.Limits.{all_fit, all_fetched, front_bytes}
use Rattle.fetch_waits.proofs.Runs.{some_of}

abbrev Batches : Type 0
Batches = List BatchValue

-- ---- one batch

left_same : (b : BatchValue) → IsLeftOf b b
left_same b = record { head = refl; bytes = omega arith }

left_twice : (x y z : BatchValue) → IsLeftOf x y → IsLeftOf y z → IsLeftOf x z
left_twice x y z one two = record { head = one.head ∙ two.head; bytes = omega (arith, one.bytes, two.bytes) }

left_last : (x b : BatchValue) → IsLeftOf x b → last_offset x ≡ last_offset b
left_last x b left = ap (λ (h : BatchHead). h.base +ℤ h.last_delta) left.head

-- ---- some batches

pub all_left : (bs : Batches) → AreLeftOf bs bs
all_left [] = tt
all_left (b ∷ bs) = inl (left_same b, all_left bs)

pub none_left : (bs : Batches) → AreLeftOf [] bs
none_left bs = tt

-- behind others
pub left_behind_one : (xs : Batches) (b : BatchValue) (bs : Batches) → AreLeftOf xs bs → AreLeftOf xs (b ∷ bs)
left_behind_one [] b bs left = tt
left_behind_one (x ∷ xs) b bs left = inr left

-- without the first
pub left_rest : (x : BatchValue) (xs bs : Batches) → AreLeftOf (x ∷ xs) bs → AreLeftOf xs bs
left_rest x xs [] left = absurd left
left_rest x xs (b ∷ bs) (inl left) = left_behind_one xs b bs left.1
left_rest x xs (b ∷ bs) (inr left) = left_behind_one xs b bs (left_rest x xs bs left)

pub left_all_twice : (xs ys zs : Batches) → AreLeftOf xs ys → AreLeftOf ys zs → AreLeftOf xs zs
left_all_twice [] ys zs one two = tt
left_all_twice (x ∷ xs) [] zs one two = absurd one
left_all_twice (x ∷ xs) (y ∷ ys) [] one two = absurd two
left_all_twice (x ∷ xs) (y ∷ ys) (z ∷ zs) (inl one) (inl two) = inl (left_twice x y z one.0 two.0, left_all_twice xs ys zs one.1 two.1)
left_all_twice (x ∷ xs) (y ∷ ys) (z ∷ zs) (inr one) (inl two) = inr (left_all_twice (x ∷ xs) ys zs one two.1)
left_all_twice (x ∷ xs) (y ∷ ys) (z ∷ zs) one (inr two) = inr (left_all_twice (x ∷ xs) (y ∷ ys) zs one two)

-- of two lists in a row
pub record LeftOfBoth (xs bs cs : Batches) : Type 0 where
  pub front : Batches
  pub back : Batches
  pub whole : xs ≡ front ++ back
  pub in_front : AreLeftOf front bs
  pub in_back : AreLeftOf back cs

pub left_of_both : (xs bs cs : Batches) → AreLeftOf xs (bs ++ cs) → LeftOfBoth xs bs cs
left_of_both xs [] cs left = record { front = []; back = xs; whole = refl; in_front = tt; in_back = left }
left_of_both [] (b ∷ bs) cs left = record { front = []; back = []; whole = refl; in_front = tt; in_back = none_left cs }
left_of_both (x ∷ xs) (b ∷ bs) cs (inl left) =
    let rest = left_of_both xs bs cs left.1 in
    record { front = x ∷ rest.front; back = rest.back; whole = ap (λ (ys : Batches). x ∷ ys) rest.whole; in_front = inl (left.0, rest.in_front); in_back = rest.in_back }
left_of_both (x ∷ xs) (b ∷ bs) cs (inr left) =
    let rest = left_of_both (x ∷ xs) bs cs left in
    record { front = rest.front; back = rest.back; whole = rest.whole; in_front = left_behind_one rest.front b bs rest.in_front; in_back = rest.in_back }

-- ---- their bytes, and where they end

pub left_bytes : (xs bs : Batches) → AreLeftOf xs bs → bytes_of xs ≤ bytes_of bs
left_bytes [] bs left = omega arith
left_bytes (x ∷ xs) [] left = absurd left
left_bytes (x ∷ xs) (b ∷ bs) (inl left) = omega (arith, bytes_more x xs, bytes_more b bs, left.0.bytes, left_bytes xs bs left.1)
left_bytes (x ∷ xs) (b ∷ bs) (inr left) = omega (arith, bytes_more b bs, left_bytes (x ∷ xs) bs left)

pub left_are_behind : (offset : ℤ) (xs bs : Batches) → AreLeftOf xs bs → AreBehind offset bs → AreBehind offset xs
left_are_behind offset [] bs left behind = tt
left_are_behind offset (x ∷ xs) [] left behind = absurd left
left_are_behind offset (x ∷ xs) (b ∷ bs) (inl left) behind =
    let last = left_last x b left.0 in (omega (arith, ints, last, behind.0), left_are_behind offset xs bs left.1 behind.1)
left_are_behind offset (x ∷ xs) (b ∷ bs) (inr left) behind = left_are_behind offset (x ∷ xs) bs left behind.1

-- ---- from an offset on

-- the batches from an offset on
abbrev pub from_offset : ℤ → Batches → Batches
from_offset offset bs = drop (first_from offset bs) bs

pub from_here : (offset : ℤ) (b : BatchValue) (bs : Batches) → int_le offset (last_offset b) ≡ true → from_offset offset (b ∷ bs) ≡ b ∷ bs
unfolding first_from
from_here offset b bs is = ap (λ (t : Bool). drop (if t then 0 else suc (first_from offset bs)) (b ∷ bs)) is

pub from_later : (offset : ℤ) (b : BatchValue) (bs : Batches) → int_le offset (last_offset b) ≡ false → from_offset offset (b ∷ bs) ≡ from_offset offset bs
unfolding first_from
from_later offset b bs is = ap (λ (t : Bool). drop (if t then 0 else suc (first_from offset bs)) (b ∷ bs)) is

pub from_nowhere : (offset : ℤ) → from_offset offset [] ≡ []
unfolding first_from
from_nowhere offset = refl

-- of the batches from an offset on, some are left
from_left_front : (offset : ℤ) (xs bs : Batches) → AreLeftOf xs bs → AreLeftOf (from_offset offset xs) bs
from_left_front offset [] bs left = subst (λ (ys : Batches). AreLeftOf ys bs) (sym (from_nowhere offset)) tt
from_left_front offset (x ∷ xs) bs left = by (int_le offset (last_offset x)) refl (from_left_front offset xs bs (left_rest x xs bs left)) where
  by : (t : Bool) → int_le offset (last_offset x) ≡ t → AreLeftOf (from_offset offset xs) bs → AreLeftOf (from_offset offset (x ∷ xs)) bs
  by true is rest = subst (λ (ys : Batches). AreLeftOf ys bs) (sym (from_here offset x xs is)) left
  by false is rest = subst (λ (ys : Batches). AreLeftOf ys bs) (sym (from_later offset x xs is)) rest

pub from_left : (offset : ℤ) (xs bs : Batches) → AreLeftOf xs bs → AreLeftOf (from_offset offset xs) (from_offset offset bs)
from_left offset [] bs left = subst (λ (ys : Batches). AreLeftOf ys (from_offset offset bs)) (sym (from_nowhere offset)) (none_left (from_offset offset bs))
from_left offset (x ∷ xs) [] left = absurd left
from_left offset (x ∷ xs) (b ∷ bs) left = by (int_le offset (last_offset b)) refl left (from_left offset xs bs) (from_left offset (x ∷ xs) bs) where
  by : (t : Bool) → int_le offset (last_offset b) ≡ t → AreLeftOf (x ∷ xs) (b ∷ bs) → (AreLeftOf xs bs → AreLeftOf (from_offset offset xs) (from_offset offset bs))
      → (AreLeftOf (x ∷ xs) bs → AreLeftOf (from_offset offset (x ∷ xs)) (from_offset offset bs)) → AreLeftOf (from_offset offset (x ∷ xs)) (from_offset offset (b ∷ bs))
  by true is left rest more = subst (AreLeftOf (from_offset offset (x ∷ xs))) (sym (from_here offset b bs is)) (from_left_front offset (x ∷ xs) (b ∷ bs) left)
  by false is (inl left) rest more =
      let same = ap (int_le offset) (left_last x b left.0) ∙ is in
      subst (AreLeftOf (from_offset offset (x ∷ xs))) (sym (from_later offset b bs is)) (subst (λ (ys : Batches). AreLeftOf ys (from_offset offset bs)) (sym (from_later offset x xs same)) (rest left.1))
  by false is (inr left) rest more = subst (AreLeftOf (from_offset offset (x ∷ xs))) (sym (from_later offset b bs is)) (more left)

-- ---- where all of the batches fit, what is left of them does

fits_all : (limit : ℕ) (bs : Batches) → fitting limit bs ≡ length bs → bytes_of bs ≤ limit
unfolding fitting
fits_all limit [] is = omega arith
fits_all limit (b ∷ bs) is = by (nat_le (size_of b) limit) refl is (fits_all (limit - size_of b) bs) where
  by : (t : Bool) → nat_le (size_of b) limit ≡ t → (if t then suc (fitting (limit - size_of b) bs) else 0) ≡ suc (length bs) → (fitting (limit - size_of b) bs ≡ length bs → bytes_of bs ≤ limit - size_of b) → bytes_of (b ∷ bs) ≤ limit
  by true e all rest = grind (arith, e, bytes_more b bs, rest (omega (arith, all)))
  by false e all rest = absurd (omega (arith, all))

fits_few : (limit : ℕ) (bs : Batches) → fitting limit bs ≤ length bs
unfolding fitting
fits_few limit [] = omega arith
fits_few limit (b ∷ bs) = by (nat_le (size_of b) limit) (fits_few (limit - size_of b) bs) where
  by : (t : Bool) → fitting (limit - size_of b) bs ≤ length bs → (if t then suc (fitting (limit - size_of b) bs) else 0) ≤ suc (length bs)
  by true rest = omega (arith, rest)
  by false rest = omega arith

-- all that there is, is given
abbrev pub GivesAll : (force : Bool) (limit : ℕ) → Batches → Type 0
GivesAll force limit bs = bytes_of (take (fetched force limit bs) bs) ≡ bytes_of bs

-- a front with all bytes is the whole
front_is_all : (n : ℕ) (bs : Batches) → bytes_of (take n bs) ≡ bytes_of bs → length bs ≤ n
front_is_all n [] same = omega arith
front_is_all zero (b ∷ bs) same = absurd (omega (arith, same, some_of (b ∷ bs) (omega arith)))
front_is_all (suc n) (b ∷ bs) same = omega (arith, front_is_all n bs (omega (arith, same, bytes_more b (take n bs), bytes_more b bs)))

all_of : (n : ℕ) (bs : Batches) → length bs ≤ n → bytes_of (take n bs) ≡ bytes_of bs
all_of n bs most = ap bytes_of (take_all n bs most)

one_forced : (limit : ℕ) (x : BatchValue) → GivesAll true limit (x ∷ [])
one_forced limit x = let few = fits_few limit (x ∷ []) in all_of (max 1 (fitting limit (x ∷ []))) (x ∷ []) (omega arith)

-- where all fit into a limit, one that isn't less gives all of what is left
left_fits : (more : Bool) (limit high : ℕ) (xs bs : Batches) → limit ≤ high → AreLeftOf xs bs → length bs ≤ fitting limit bs → GivesAll more high xs
left_fits more limit high xs bs less left count =
    let fits = fits_all limit bs (omega (arith, count, fits_few limit bs)) in
    let all = all_fetched more high xs (omega (arith, fits, less, left_bytes xs bs left)) in
    all_of (fetched more high xs) xs (omega (arith, all))

-- one that is forced is given
forced_given : (limit high : ℕ) (xs : Batches) (b : BatchValue) → AreLeftOf xs (b ∷ []) → GivesAll true high xs
forced_given limit high [] b left = refl
forced_given limit high (x ∷ []) b left = one_forced high x
forced_given limit high (x ∷ y ∷ ys) b (inl left) = absurd left.1
forced_given limit high (x ∷ y ∷ ys) b (inr left) = absurd left

-- Where a limit, or the force of the first, gives all, a limit that isn't less gives all of what is left.
pub left_given : (force more : Bool) (limit high : ℕ) (xs bs : Batches) → (force ≡ true → more ≡ true) → limit ≤ high → AreLeftOf xs bs → GivesAll force limit bs → GivesAll more high xs
left_given force more limit high [] bs forced less left given = refl
left_given force more limit high (x ∷ xs) [] forced less left given = absurd left
left_given false more limit high (x ∷ xs) (b ∷ bs) forced less left given = left_fits more limit high (x ∷ xs) (b ∷ bs) less left (front_is_all (fitting limit (b ∷ bs)) (b ∷ bs) given)
left_given true more limit high (x ∷ xs) (b ∷ bs) forced less left given = by bs (nat_le (length (b ∷ bs)) (fitting limit (b ∷ bs))) refl left given
  where
    by : (cs : Batches) (t : Bool) → nat_le (length (b ∷ cs)) (fitting limit (b ∷ cs)) ≡ t → AreLeftOf (x ∷ xs) (b ∷ cs) → GivesAll true limit (b ∷ cs) → GivesAll more high (x ∷ xs)
    by cs true e left given = left_fits more limit high (x ∷ xs) (b ∷ cs) less left (grind (arith, e))
    by [] false e left given = subst (λ (m : Bool). GivesAll m high (x ∷ xs)) (sym (forced refl)) (forced_given limit high (x ∷ xs) b left)
    by (c ∷ cs) false e left given =
        let count : length (b ∷ c ∷ cs) ≤ max 1 (fitting limit (b ∷ c ∷ cs)) = front_is_all (max 1 (fitting limit (b ∷ c ∷ cs))) (b ∷ c ∷ cs) given in
        let few : fitting limit (b ∷ c ∷ cs) < length (b ∷ c ∷ cs) = grind (arith, e) in
        absurd (omega (arith, count, few))
