-- What a change of one block does to the list.
use Rattle.std.proofs.Common.{◌≡◌, ℕ, ◌+◌, ◌-◌, ◌<◌, List, [], length, get_or, set, sym, ap, ◌∙◌, arith, drop, length-drop, take}
use Rattle.std.specs.List.{sum, remove}
use Rattle.std.proofs.lemmas.List.{length-set}
use Rattle.std.proofs.lemmas.List.Edits.{length-remove}
use Rattle.std.proofs.lemmas.List.Sums.{sum_by-set, sum_by-remove, sum_by-take-drop}
use Rattle.count_list.specs.Blocks.{joined, IsIn}
use Rattle.count_list.proofs.Running.{count_in, block_ends, length_joined}
use Rattle.count_list.proofs.Edited.{set_in, remove_in}

-- the count that code reads
pub count_read : (bs : List (List ℕ)) (list counts : List ℕ) (k j i : ℕ) → IsIn length bs k j i → joined bs ≡ list → counts ≡ get_or bs k [] → get_or counts j 0 ≡ get_or list i 0
count_read bs list counts k j i at view here =
    ap (λ (xs : List ℕ). get_or xs j 0) here ∙ sym (count_in bs k j i 0 at) ∙ ap (λ (xs : List ℕ). get_or xs i 0) view

is_inside : (bs : List (List ℕ)) (k j i : ℕ) → IsIn length bs k j i → i < length (joined bs)
is_inside bs k j i at = omega (arith, at.within, at.sum, block_ends length bs k at.block, length_joined bs)

-- another count in its place
pub record IsSet (bs new : List (List ℕ)) (list : List ℕ) (i x old : ℕ) : Type 0 where
  pub list_is : joined new ≡ set list i x
  pub length_is : length (joined new) ≡ length (joined bs)
  pub sum_is : sum (joined new) + old ≡ sum (joined bs) + x

pub set_whole : (bs new : List (List ℕ)) (list counts : List ℕ) (k j i x : ℕ) → IsIn length bs k j i → joined bs ≡ list → counts ≡ get_or bs k [] → new ≡ set bs k (set (get_or bs k []) j x)
    → IsSet bs new list i x (get_or counts j 0)
set_whole bs new list counts k j i x at view here is =
    let all : joined new ≡ set (joined bs) i x = ap (λ (y : List (List ℕ)). joined y) is ∙ set_in bs k j i x at in
    record {
      list_is = all ∙ ap (λ (xs : List ℕ). set xs i x) view;
      length_is = ap (λ (xs : List ℕ). length xs) all ∙ length-set (joined bs) i x;
      sum_is = omega (arith, ap (λ (xs : List ℕ). sum xs) all, sum_by-set (λ y. y) (joined bs) i x 0 (is_inside bs k j i at), count_read bs (joined bs) counts k j i at (λ i. joined bs) here);
    }

-- taken out
pub record IsRemoved (bs new : List (List ℕ)) (list : List ℕ) (i old : ℕ) : Type 0 where
  pub list_is : joined new ≡ remove list i
  pub length_is : length (joined new) + 1 ≡ length (joined bs)
  pub sum_is : sum (joined new) + old ≡ sum (joined bs)

pub remove_whole : (bs new : List (List ℕ)) (list counts : List ℕ) (k j i : ℕ) → IsIn length bs k j i → joined bs ≡ list → counts ≡ get_or bs k [] → new ≡ set bs k (remove (get_or bs k []) j)
    → IsRemoved bs new list i (get_or counts j 0)
remove_whole bs new list counts k j i at view here is =
    let all : joined new ≡ remove (joined bs) i = ap (λ (y : List (List ℕ)). joined y) is ∙ remove_in bs k j i at in
    record {
      list_is = all ∙ ap (λ (xs : List ℕ). remove xs i) view;
      length_is = omega (arith, ap (λ (xs : List ℕ). length xs) all, length-remove (joined bs) i (is_inside bs k j i at));
      sum_is = omega (arith, ap (λ (xs : List ℕ). sum xs) all, sum_by-remove (λ y. y) (joined bs) i 0 (is_inside bs k j i at), count_read bs (joined bs) counts k j i at (λ i. joined bs) here);
    }

-- the first ones gone
pub length_dropped : (bs new : List (List ℕ)) (count : ℕ) → joined new ≡ drop count (joined bs) → length (joined new) ≡ length (joined bs) - count
length_dropped bs new count is = ap (λ (xs : List ℕ). length xs) is ∙ length-drop count (joined bs)

pub sum_dropped : (bs new : List (List ℕ)) (count gone : ℕ) → joined new ≡ drop count (joined bs) → gone ≡ sum (take count (joined bs)) → sum (joined new) + gone ≡ sum (joined bs)
sum_dropped bs new count gone is taken = omega (arith, ap (λ (xs : List ℕ). sum xs) is, sum_by-take-drop (λ x. x) (joined bs) count, taken)
