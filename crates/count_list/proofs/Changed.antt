-- A loop that changes each number from some index on.
use Rattle.std.proofs.Common.{◌≡◌, ℕ, ◌+◌, ◌-◌, ◌<◌, ◌≤◌, List, [], ◌∷◌, ◌++◌, length, get_or, take, drop, map, set, refl, sym, ap, ◌∙◌, arith, append_assoc, length-append, length-take, length-drop}
use Rattle.std.specs.List.{slice_index}
use Rattle.std.proofs.lemmas.List.{map_more, drop_more, get_or_at, get_or-drop, set_at, length-map}

pub count_here : (f : ℕ → ℕ) (from i : ℕ) (old now : List ℕ) → from ≤ i → i < length old → now ≡ take from old ++ map f (take (i - from) (drop from old)) ++ drop i old
    → (i < length now) × (slice_index now i ≡ get_or old i 0)
count_here f from i old now le lt is =
    let front = take from old ++ map f (take (i - from) (drop from old)) in
    let len : length front ≡ i =
    omega (arith, length-append (take from old) (map f (take (i - from) (drop from old))), length-take from old, length-map (take (i - from) (drop from old)) f, length-take (i - from) (drop from old), length-drop from old) in
    let split : now ≡ front ++ get_or old i 0 ∷ drop (i + 1) old = is ∙ ap (λ (ys : List ℕ). front ++ ys) (drop_more old i 0 lt) in
    let long : length now ≡ length (front ++ drop i old) = ap (λ (ys : List ℕ). length ys) is in
    (omega (arith, long, length-append front (drop i old), len, length-drop i old), ap (λ (ys : List ℕ). get_or ys i 0) split ∙ get_or_at front (get_or old i 0) (drop (i + 1) old) 0 i len)

pub count_more : (f : ℕ → ℕ) (from i : ℕ) (old now : List ℕ) → from ≤ i → i < length old → now ≡ take from old ++ map f (take (i - from) (drop from old)) ++ drop i old
    → set now i (f (slice_index now i)) ≡ take from old ++ map f (take ((i + 1) - from) (drop from old)) ++ drop (i + 1) old
count_more f from i old now le lt is =
    let front = take from old ++ map f (take (i - from) (drop from old)) in
    let x = get_or old i 0 in
    let len : length front ≡ i =
    omega (arith, length-append (take from old) (map f (take (i - from) (drop from old))), length-take from old, length-map (take (i - from) (drop from old)) f, length-take (i - from) (drop from old), length-drop from old) in
    let split : now ≡ front ++ x ∷ drop (i + 1) old = is ∙ ap (λ (ys : List ℕ). front ++ ys) (drop_more old i 0 lt) in
    let read : slice_index now i ≡ x = ap (λ (ys : List ℕ). get_or ys i 0) split ∙ get_or_at front x (drop (i + 1) old) 0 i len in
    let write : set now i (f (slice_index now i)) ≡ front ++ f x ∷ drop (i + 1) old =
    ap (λ (n : ℕ). set now i (f n)) read ∙ ap (λ (ys : List ℕ). set ys i (f x)) split ∙ set_at front x (drop (i + 1) old) (f x) i len in
    let here : get_or (drop from old) (i - from) 0 ≡ x = get_or-drop from old (i - from) 0 ∙ ap (λ (n : ℕ). get_or old n 0) (omega arith) in
    let more : map f (take ((i - from) + 1) (drop from old)) ≡ map f (take (i - from) (drop from old)) ++ f x ∷ [] =
    map_more f (drop from old) (i - from) 0 (omega (arith, length-drop from old)) ∙ ap (λ (n : ℕ). map f (take (i - from) (drop from old)) ++ f n ∷ []) here in
    let count : (i + 1) - from ≡ (i - from) + 1 = omega arith in
    write ∙ by f (take from old) (map f (take (i - from) (drop from old))) (f x) (drop (i + 1) old) ∙ sym (ap (λ (ys : List ℕ). take from old ++ ys ++ drop (i + 1) old) (ap (λ (n : ℕ). map f (take n (drop from old))) count ∙ more))
  where
    by : (f : ℕ → ℕ) (a b : List ℕ) (y : ℕ) (c : List ℕ) → (a ++ b) ++ y ∷ c ≡ (a ++ (b ++ y ∷ [])) ++ c
    by f a b y c = simp (append_assoc) refl
