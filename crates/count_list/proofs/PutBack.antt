-- One block that is read, changed, and put back in its place.
use Rattle.std.proofs.Common.{◌≡◌, ℕ, ◌<◌, List, [], length, get_or, set, ap, ◌∙◌, arith}
use Rattle.std.proofs.lemmas.List.{get_or_read}

-- as it is shown
pub block_read : (bs shown : List (List ℕ)) (k : ℕ) (read : List ℕ) → bs ≡ shown → k < length shown → read ≡ get_or bs k read → read ≡ get_or shown k []
block_read bs shown k read view lt reads =
    let long : length bs ≡ length shown = ap (λ (x : List (List ℕ)). length x) view in
    get_or_read bs k read (omega (arith, lt, long)) reads [] ∙ ap (λ (x : List (List ℕ)). get_or x k []) view

-- changed
pub changed : (f : List ℕ → List ℕ) (bs shown : List (List ℕ)) (k : ℕ) (read now : List ℕ) → bs ≡ shown → k < length shown → read ≡ get_or bs k read → now ≡ f read
    → set bs k now ≡ set shown k (f (get_or shown k []))
changed f bs shown k read now view lt reads made =
    λ i. set (view i) k ((made ∙ ap f (block_read bs shown k read view lt reads)) i)
