-- Words of private clauses: a list in blocks, and where each block starts.
use Rattle.std.specs.Prelude.{ℕ, zero, suc, ◌+◌, ◌<◌, ◌≡◌, List, [], ◌∷◌, length, take, drop, slice_index_or}
use Rattle.std.specs.List.{flat_map}

-- the elements of all blocks, in order
abbrev pub joined : {X : Type 0} → List (List X) → List X
joined bs = flat_map (λ b. b) bs

-- how many elements stand before each block, where `n` stand before the first
abbrev pub starts_of : {X : Type 0} → ℕ → List (List X) → List ℕ
starts_of n [] = []
starts_of n (b ∷ bs) = n ∷ starts_of (n + length b) bs

-- the element at index `i` of the list is that at index `j` of block `k`
pub record IsIn {X : Type 0} (bs : List (List X)) (k j i : ℕ) : Type 0 where
  pub block : k < length bs
  pub within : j < length (slice_index_or bs k [])
  pub sum : length (joined (take k bs)) + j ≡ i

-- block `k` in two, of which the first has `h` elements
unfoldable pub divided : {X : Type 0} → ℕ → List (List X) → ℕ → List (List X)
divided h [] k = []
divided h (b ∷ bs) zero = take h b ∷ drop h b ∷ bs
divided h (b ∷ bs) (suc k) = b ∷ divided h bs k
