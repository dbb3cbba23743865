-- Words of private clauses: a list of counts in blocks, and the sums that run before each block.
use Rattle.std.specs.Prelude.{ℕ, zero, suc, ◌+◌, ◌<◌, ◌≡◌, List, [], ◌∷◌, length, take, drop, slice_index_or}
use Rattle.std.specs.List.{flat_map, sum_by}

-- the counts of all blocks, in order
abbrev pub joined : List (List ℕ) → List ℕ
joined bs = flat_map (λ b. b) bs

-- the sum of `f` over what stands before each block, where it is `n` before the first
abbrev pub running : (List ℕ → ℕ) → ℕ → List (List ℕ) → List ℕ
running f n [] = []
running f n (b ∷ bs) = n ∷ running f (n + f b) bs

-- `i` of what `f` measures falls into block `k`, where `j` of it stand before `i`
pub record IsIn (f : List ℕ → ℕ) (bs : List (List ℕ)) (k j i : ℕ) : Type 0 where
  pub block : k < length bs
  pub within : j < f (slice_index_or bs k [])
  pub sum : sum_by f (take k bs) + j ≡ i

-- block `k` in two, of which the first has `h` counts
unfoldable pub divided : ℕ → List (List ℕ) → ℕ → List (List ℕ)
divided h [] k = []
divided h (b ∷ bs) zero = take h b ∷ drop h b ∷ bs
divided h (b ∷ bs) (suc k) = b ∷ divided h bs k
