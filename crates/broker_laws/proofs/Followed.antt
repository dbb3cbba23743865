-- Lists that are answered element by element. What each answer has in a state with an invariant, all have; and what each
-- answer takes from a budget that the state holds, all take together.
use Rattle.std.proofs.Common.{◌≡◌, ℕ, suc, ◌+◌, ◌*◌, ◌≤◌, List, [], ◌∷◌, length, refl, ap, subst, ◌∙◌, arith}
use Rattle.std.specs.Prelude.{map}
use Rattle.std.specs.List.{flat_map, AllByRecursion}
use Rattle.std.proofs.lemmas.List.{length-append}
use Rattle.std.proofs.lemmas.List.Concat.{flat_map-cons}
use Rattle.answering.specs.Plans.{AnswersAll}

-- ---- element by element

abbrev pub Paired : {X Y : Type 0} → (X → Y → Type 0) → List X → List Y → Type 0
Paired P [] [] = Unit {0}
Paired P (x ∷ xs) (y ∷ ys) = P x y × Paired P xs ys
Paired P [] (y ∷ ys) = ⊥
Paired P (x ∷ xs) [] = ⊥

pub paired_length : {X Y : Type 0} (P : X → Y → Type 0) (xs : List X) (ys : List Y) → Paired P xs ys → length ys ≡ length xs
paired_length P [] [] all = refl
paired_length P [] (y ∷ ys) all = absurd all
paired_length P (x ∷ xs) [] all = absurd all
paired_length P (x ∷ xs) (y ∷ ys) all = ap suc (paired_length P xs ys all.1)

pub paired_second : {X Y : Type 0} (P : X → Y → Type 0) (Q : Y → Type 0) → ((x : X) (y : Y) → P x y → Q y) → (xs : List X) (ys : List Y) → Paired P xs ys → AllByRecursion Q ys
paired_second P Q gives [] [] all = tt
paired_second P Q gives [] (y ∷ ys) all = absurd all
paired_second P Q gives (x ∷ xs) [] all = absurd all
paired_second P Q gives (x ∷ xs) (y ∷ ys) all = (gives x y all.0, paired_second P Q gives xs ys all.1)

pub paired_weaker : {X Y : Type 0} (P Q : X → Y → Type 0) → ((x : X) (y : Y) → P x y → Q x y) → (xs : List X) (ys : List Y) → Paired P xs ys → Paired Q xs ys
paired_weaker P Q gives [] [] all = tt
paired_weaker P Q gives [] (y ∷ ys) all = absurd all
paired_weaker P Q gives (x ∷ xs) [] all = absurd all
paired_weaker P Q gives (x ∷ xs) (y ∷ ys) all = (gives x y all.0, paired_weaker P Q gives xs ys all.1)

-- what each answer has, where the state before has an invariant and the element is good, all have
pub followed : {S X Y Z : Type 0} (h : Z → X) (A : S → X → Y → S → Type 0) (I : S → Type 0) (Q : Z → Type 0) (P : Z → Y → Type 0)
    → ((s : S) (z : Z) (y : Y) (m : S) → I s → Q z → A s (h z) y m → P z y × I m)
    → (s : S) (zs : List Z) (ys : List Y) (end : S) → I s → AllByRecursion Q zs → AnswersAll A s (map h zs) ys end → Paired P zs ys × I end
followed h A I Q P step s [] [] end i q all = (tt, subst I all i)
followed h A I Q P step s [] (y ∷ ys) end i q all = absurd all
followed h A I Q P step s (z ∷ zs) [] end i q all = absurd all
followed h A I Q P step s (z ∷ zs) (y ∷ ys) end i q all =
    let first = step s z y all.0 i q.0 all.1 in
    let others = followed h A I Q P step all.0 zs ys end first.1 q.1 all.2 in
    ((first.0, others.0), others.1)

-- ---- budgets and sizes

abbrev pub total : {Y : Type 0} → (Y → ℕ) → List Y → ℕ
total w [] = 0
total w (y ∷ ys) = w y + total w ys

pub none_in_all : {Y : Type 0} (ys : List Y) → total (λ (y : Y). 0) ys ≡ 0
none_in_all [] = refl
none_in_all (y ∷ ys) = omega (arith, none_in_all ys)

pub spent : {S X Y : Type 0} (A : S → X → Y → S → Type 0) (w : Y → ℕ) (b : S → ℕ) → ((s : S) (x : X) (y : Y) (m : S) → A s x y m → w y + b m ≤ b s)
    → (s : S) (xs : List X) (ys : List Y) (end : S) → AnswersAll A s xs ys end → total w ys + b end ≤ b s
spent A w b step s [] [] end all = let same : b s ≡ b end = ap b all in omega (arith, same)
spent A w b step s [] (y ∷ ys) end all = absurd all
spent A w b step s (x ∷ xs) [] end all = absurd all
spent A w b step s (x ∷ xs) (y ∷ ys) end all = omega (arith, step s x y all.0 all.1, spent A w b step all.0 xs ys end all.2)

-- where each answer takes no more than its element allows, all together do
pub bounded : {S X Y : Type 0} (A : S → X → Y → S → Type 0) (w : Y → ℕ) (u : X → ℕ) → ((s : S) (x : X) (y : Y) (m : S) → A s x y m → w y ≤ u x)
    → (s : S) (xs : List X) (ys : List Y) (end : S) → AnswersAll A s xs ys end → total w ys ≤ total u xs
bounded A w u step s [] [] end all = omega arith
bounded A w u step s [] (y ∷ ys) end all = absurd all
bounded A w u step s (x ∷ xs) [] end all = absurd all
bounded A w u step s (x ∷ xs) (y ∷ ys) end all = omega (arith, step s x y all.0 all.1, bounded A w u step all.0 xs ys end all.2)

pub longer : {W : Type 0} (k : W → List ℕ) (w : W) (ws : List W) → length (flat_map k (w ∷ ws)) ≡ length (k w) + length (flat_map k ws)
longer k w ws = ap length (flat_map-cons k w ws) ∙ length-append (k w) (flat_map k ws)

-- bytes that are each at most four times as many, but for what is counted apart
pub grown : {X Y : Type 0} (f : X → List ℕ) (g : Y → List ℕ) (extra : Y → ℕ) (xs : List X) (ys : List Y)
    → Paired (λ x y. length (g y) ≤ 4 * length (f x) + extra y) xs ys → length (flat_map g ys) ≤ 4 * length (flat_map f xs) + total extra ys
grown f g extra [] [] all = omega arith
grown f g extra [] (y ∷ ys) all = absurd all
grown f g extra (x ∷ xs) [] all = absurd all
grown f g extra (x ∷ xs) (y ∷ ys) all = omega (arith, longer f x xs, longer g y ys, all.0, grown f g extra xs ys all.1)
