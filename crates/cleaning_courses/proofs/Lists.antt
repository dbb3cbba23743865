-- Lists of records: filters of lists that are joined, turned round and mapped, and what is among their elements.
use Rattle.std.proofs.Common.{◌≡◌, Bool, true, false, cond, ◌&&◌, ◌||◌, List, [], ◌∷◌, ◌++◌, map, reverse, Some, refl, sym, ap, subst, ◌∙◌, ◌⊎◌, inl, inr, ℤ, pos, ◌+ℤ◌, arith}
use Rattle.std.specs.Prelude.{◌≤ℤ◌}
use Rattle.std.specs.List.{filter, list_any, AllByRecursion}
use Rattle.std.proofs.lemmas.List.{append-nil, reverse-append}
use Rattle.std.proofs.lemmas.List.Folds.{list_any-append}
use Rattle.std.specs.Ordering.{int_eq}
use Rattle.std.proofs.lemmas.Int.{ints}
use Rattle.content.specs.ByOffset.{look_up, Rises}
use Rattle.cleaning_policy.specs.Readers.{IsAmong}

pub reverse_cons : {X : Type 0} (x : X) (xs : List X) → reverse (x ∷ xs) ≡ reverse xs ++ x ∷ []
reverse_cons x xs = reverse-append (x ∷ []) xs

pub filter-append : {X : Type 0} (p : X → Bool) (xs ys : List X) → filter p (xs ++ ys) ≡ filter p xs ++ filter p ys
filter-append p [] ys = refl
filter-append {X = X} p (x ∷ xs) ys = by (p x) (filter-append p xs ys)
  where
    by : (b : Bool) → filter p (xs ++ ys) ≡ filter p xs ++ filter p ys → cond b (x ∷ filter p (xs ++ ys)) (filter p (xs ++ ys)) ≡ cond b (x ∷ filter p xs) (filter p xs) ++ filter p ys
    by true ih = ap (λ (l : List X). x ∷ l) ih
    by false ih = ih

pub filter-reverse : {X : Type 0} (p : X → Bool) (xs : List X) → filter p (reverse xs) ≡ reverse (filter p xs)
filter-reverse p [] = refl
filter-reverse {X = X} p (x ∷ xs) =
    ap (filter p) (reverse_cons x xs) ∙ filter-append p (reverse xs) (x ∷ []) ∙ ap (λ (l : List X). l ++ filter p (x ∷ [])) (filter-reverse p xs) ∙ by (p x)
  where
    by : (b : Bool) → reverse (filter p xs) ++ cond b (x ∷ []) [] ≡ reverse (cond b (x ∷ filter p xs) (filter p xs))
    by true = sym (reverse_cons x (filter p xs))
    by false = append-nil (reverse (filter p xs))

or_last : (a b : Bool) → (a || (b || false)) ≡ (b || a)
or_last a b = grind arith

pub list_any-reverse : {X : Type 0} (p : X → Bool) (xs : List X) → list_any p (reverse xs) ≡ list_any p xs
list_any-reverse p [] = refl
list_any-reverse p (x ∷ xs) =
    ap (list_any p) (reverse_cons x xs) ∙ list_any-append p (reverse xs) (x ∷ []) ∙ ap (λ (b : Bool). b || list_any p (x ∷ [])) (list_any-reverse p xs) ∙ or_last (list_any p xs) (p x)

pub filter_same : {X : Type 0} (p q : X → Bool) (xs : List X) → AllByRecursion (λ x. p x ≡ q x) xs → filter p xs ≡ filter q xs
filter_same p q [] same = refl
filter_same {X = X} p q (x ∷ xs) same = by (p x) (q x) same.0 (filter_same p q xs same.1)
  where
    by : (a b : Bool) → a ≡ b → filter p xs ≡ filter q xs → cond a (x ∷ filter p xs) (filter p xs) ≡ cond b (x ∷ filter q xs) (filter q xs)
    by a b e ih = (λ i. cond (e i) (x ∷ ih i) (ih i))

pub list_any_map : {X Y : Type 0} (f : X → Y) (h : X → Bool) (q : Y → Bool) (xs : List X) → list_any q (map f (filter h xs)) ≡ list_any (λ x. h x && q (f x)) xs
list_any_map f h q [] = refl
list_any_map {X = X} f h q (x ∷ xs) = by (h x) (list_any_map f h q xs)
  where
    by : (b : Bool) → list_any q (map f (filter h xs)) ≡ list_any (λ y. h y && q (f y)) xs → list_any q (map f (cond b (x ∷ filter h xs) (filter h xs))) ≡ ((b && q (f x)) || list_any (λ y. h y && q (f y)) xs)
    by true ih = ap (λ (c : Bool). q (f x) || c) ih
    by false ih = ih

pub list_any_same : {X : Type 0} (p q : X → Bool) (xs : List X) → AllByRecursion (λ x. p x ≡ q x) xs → list_any p xs ≡ list_any q xs
list_any_same p q [] same = refl
list_any_same p q (x ∷ xs) same = (λ i. same.0 i || list_any_same p q xs same.1 i)

-- ---- what is among the elements

pub among-append : {X : Type 0} (x : X) (xs ys : List X) → IsAmong x (xs ++ ys) → IsAmong x xs ⊎ IsAmong x ys
among-append x [] ys i = inr i
among-append x (y ∷ xs) ys (inl is) = inl (inl is)
among-append {X = X} x (y ∷ xs) ys (inr i) = by (among-append x xs ys i)
  where
    by : IsAmong x xs ⊎ IsAmong x ys → IsAmong x (y ∷ xs) ⊎ IsAmong x ys
    by (inl j) = inl (inr j)
    by (inr j) = inr j

pub among-left : {X : Type 0} (x : X) (xs ys : List X) → IsAmong x xs → IsAmong x (xs ++ ys)
among-left x [] ys i = absurd i
among-left x (y ∷ xs) ys (inl is) = inl is
among-left x (y ∷ xs) ys (inr i) = inr (among-left x xs ys i)

pub among-right : {X : Type 0} (x : X) (xs ys : List X) → IsAmong x ys → IsAmong x (xs ++ ys)
among-right x [] ys i = i
among-right x (y ∷ xs) ys i = inr (among-right x xs ys i)

-- ---- what holds of all elements

pub all-append : {X : Type 0} (P : X → Type 0) (xs ys : List X) → AllByRecursion P xs → AllByRecursion P ys → AllByRecursion P (xs ++ ys)
all-append P [] ys all more = more
all-append P (x ∷ xs) ys all more = (all.0, all-append P xs ys all.1 more)

-- ---- what is found

pub found-among : {X : Type 0} (offset : X → ℤ) (k : ℤ) (xs : List X) (x : X) → look_up offset k xs ≡ Some x → IsAmong x xs
found-among offset k [] x e = absurd cc
found-among {X = X} offset k (y ∷ ys) x e = by (int_eq (offset y) k) e (found-among offset k ys x)
  where
    by : (b : Bool) → cond b (Some y) (look_up offset k ys) ≡ Some x → (look_up offset k ys ≡ Some x → IsAmong x ys) → IsAmong x (y ∷ ys)
    by true f ih = let same : y ≡ x = cc in inl same
    by false f ih = inr (ih f)

pub rises-among : {X : Type 0} (offset : X → ℤ) (low : ℤ) (xs : List X) (x : X) → Rises offset low xs → IsAmong x xs → low ≤ℤ offset x
rises-among offset low [] x rise i = absurd i
rises-among offset low (y ∷ ys) x rise (inl is) = subst (λ z. low ≤ℤ offset z) is rise.0
rises-among offset low (y ∷ ys) x rise (inr i) =
    let rest : (offset y +ℤ pos 1) ≤ℤ offset x = rises-among offset (offset y +ℤ pos 1) ys x rise.1 i in
    omega (arith, ints, rise.0, rest)

pub among-found : {X : Type 0} (offset : X → ℤ) (low : ℤ) (xs : List X) (x : X) → Rises offset low xs → IsAmong x xs → look_up offset (offset x) xs ≡ Some x
among-found offset low [] x rise i = absurd i
among-found {X = X} offset low (y ∷ ys) x rise (inl is) = subst (λ (z : X). look_up offset (offset z) (y ∷ ys) ≡ Some z) is (grind (arith, ints))
among-found {X = X} offset low (y ∷ ys) x rise (inr i) =
    let behind : (offset y +ℤ pos 1) ≤ℤ offset x = rises-among offset (offset y +ℤ pos 1) ys x rise.1 i in
    let rest : look_up offset (offset x) ys ≡ Some x = among-found offset (offset y +ℤ pos 1) ys x rise.1 i in
    grind (arith, ints, behind, rest)
