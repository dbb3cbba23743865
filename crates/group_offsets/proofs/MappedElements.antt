-- The elements of a list, seen by a function.
use Rattle.std.proofs.Common.{◌≡◌, ◌<◌, ◌≤◌, ℕ, List, map, length, get_or, sym, arith}
use Rattle.std.proofs.lemmas.List.{get_or-map, length-map}

module _ {A B : Type 0} (f : A → B) (xs : List A) (i : ℕ) where
  pub mapped : (d : A) → i < length xs → f (get_or xs i d) ≡ get_or (map f xs) i (f (get_or xs i d))
  mapped d within = sym (get_or-map f xs i d (f (get_or xs i d)) within)

  pub in_map : i < length xs → i < length (map f xs)
  in_map within = omega (arith, within, length-map xs f)

  pub past_map : length xs ≤ i → length (map f xs) ≤ i
  past_map over = omega (arith, over, length-map xs f)
