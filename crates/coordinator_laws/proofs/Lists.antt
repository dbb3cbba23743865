-- Lists: what holds of each element, and of some.
use Rattle.std.proofs.Common.{◌≡◌, ℕ, suc, ◌+◌, ◌<◌, Bool, true, false, cond, not, ◌&&◌, ◌||◌, List, [], ◌∷◌, ◌++◌, map, length, refl, sym, subst, ◌∙◌, arith}
use Rattle.std.specs.Prelude.{Some, None, slice_get}
use Rattle.std.proofs.lemmas.Option.{none-some, same_Some}
use Rattle.std.specs.List.{AllByRecursion, filter, find, list_any, list_all, position_or_len}

pub by_test : {X : Type 0} (P : X → Type 0) (b : Bool) (x y : X) → (b ≡ true → P x) → (b ≡ false → P y) → P (cond b x y)
by_test P true x y p q = p refl
by_test P false x y p q = q refl

module _ {X : Type 0} where
  pub all_weaker : (P Q : X → Type 0) → ((x : X) → P x → Q x) → (xs : List X) → AllByRecursion P xs → AllByRecursion Q xs
  all_weaker P Q w [] a = tt
  all_weaker P Q w (x ∷ xs) a = (w x a.0, all_weaker P Q w xs a.1)

  pub all_and : (P Q R : X → Type 0) → ((x : X) → P x → Q x → R x) → (xs : List X) → AllByRecursion P xs → AllByRecursion Q xs → AllByRecursion R xs
  all_and P Q R w [] a b = tt
  all_and P Q R w (x ∷ xs) a b = (w x a.0 b.0, all_and P Q R w xs a.1 b.1)

  pub all_any : (P : X → Type 0) → ((x : X) → P x) → (xs : List X) → AllByRecursion P xs
  all_any P w [] = tt
  all_any P w (x ∷ xs) = (w x, all_any P w xs)

  pub all_filter : (P : X → Type 0) (t : X → Bool) (xs : List X) → AllByRecursion P xs → AllByRecursion P (filter t xs)
  all_filter P t [] a = tt
  all_filter P t (x ∷ xs) a = by (t x) (all_filter P t xs a.1) where
    by : (b : Bool) → AllByRecursion P (filter t xs) → AllByRecursion P (cond b (x ∷ filter t xs) (filter t xs))
    by true r = (a.0, r)
    by false r = r

  pub all_passes : (t : X → Bool) (xs : List X) → AllByRecursion (λ x. t x ≡ true) (filter t xs)
  all_passes t [] = tt
  all_passes t (x ∷ xs) = by (t x) refl (all_passes t xs) where
    by : (b : Bool) → t x ≡ b → AllByRecursion (λ x. t x ≡ true) (filter t xs) → AllByRecursion (λ x. t x ≡ true) (cond b (x ∷ filter t xs) (filter t xs))
    by true e r = (e, r)
    by false e r = r

  pub all_append : (P : X → Type 0) (xs ys : List X) → AllByRecursion P xs → AllByRecursion P ys → AllByRecursion P (xs ++ ys)
  all_append P [] ys a b = b
  all_append P (x ∷ xs) ys a b = (a.0, all_append P xs ys a.1 b)

  pub all_of : (t : X → Bool) (xs : List X) → list_all t xs ≡ true → AllByRecursion (λ x. t x ≡ true) xs
  all_of t [] e = tt
  all_of t (x ∷ xs) e = by (t x) refl e (all_of t xs) where
    by : (b : Bool) → t x ≡ b → (b && list_all t xs) ≡ true → (list_all t xs ≡ true → AllByRecursion (λ x. t x ≡ true) xs) → (t x ≡ true) × AllByRecursion (λ x. t x ≡ true) xs
    by true f e r = (f, r e)
    by false f e r = absurd (grind (arith, e))

  pub to_all : (t : X → Bool) (xs : List X) → AllByRecursion (λ x. t x ≡ true) xs → list_all t xs ≡ true
  to_all t [] a = refl
  to_all t (x ∷ xs) a = grind (arith, a.0, to_all t xs a.1)

  pub filter_all_gone : (t : X → Bool) → ((x : X) → t x ≡ false) → (xs : List X) → filter t xs ≡ []
  filter_all_gone t w [] = refl
  filter_all_gone t w (x ∷ xs) = grind (arith, w x, filter_all_gone t w xs)

  pub any_where : (t u : X → Bool) → ((x : X) → t x ≡ true → u x ≡ true) → (xs : List X) → list_any t xs ≡ true → list_any u xs ≡ true
  any_where t u w [] e = e
  any_where t u w (x ∷ xs) e = by (t x) refl e (any_where t u w xs) where
    by : (b : Bool) → t x ≡ b → (b || list_any t xs) ≡ true → (list_any t xs ≡ true → list_any u xs ≡ true) → (u x || list_any u xs) ≡ true
    by true f e r = grind (arith, w x f)
    by false f e r = grind (arith, r e)

  pub none_of : (t : X → Bool) (xs : List X) → list_any t xs ≡ false → AllByRecursion (λ x. t x ≡ false) xs
  none_of t [] e = tt
  none_of t (x ∷ xs) e = by (t x) refl e (none_of t xs) where
    by : (b : Bool) → t x ≡ b → (b || list_any t xs) ≡ false → (list_any t xs ≡ false → AllByRecursion (λ x. t x ≡ false) xs) → (t x ≡ false) × AllByRecursion (λ x. t x ≡ false) xs
    by true f e r = absurd (grind (arith, e))
    by false f e r = (f, r e)

  pub find_none : (t : X → Bool) (xs : List X) → find t xs ≡ None → AllByRecursion (λ x. t x ≡ false) xs
  find_none t [] e = tt
  find_none t (x ∷ xs) e = by (t x) refl e (find_none t xs) where
    by : (b : Bool) → t x ≡ b → cond b (Some x) (find t xs) ≡ None → (find t xs ≡ None → AllByRecursion (λ x. t x ≡ false) xs) → (t x ≡ false) × AllByRecursion (λ x. t x ≡ false) xs
    by true f e r = absurd (none-some x (sym e))
    by false f e r = (f, r e)

  pub filter_same : (t : X → Bool) (xs : List X) → AllByRecursion (λ x. t x ≡ true) xs → filter t xs ≡ xs
  filter_same t [] a = refl
  filter_same t (x ∷ xs) a = (λ i. cond (a.0 i) (x ∷ filter t xs) (filter t xs)) ∙ (λ i. x ∷ filter_same t xs a.1 i)

  -- the first place at which a test passes
  pub position_within : (t : X → Bool) (xs : List X) → list_any t xs ≡ true → position_or_len t xs < length xs
  position_within t [] e = absurd (grind (arith, e))
  position_within t (x ∷ xs) e = by (t x) refl e (position_within t xs) where
    by : (b : Bool) → t x ≡ b → (b || list_any t xs) ≡ true → (list_any t xs ≡ true → position_or_len t xs < length xs) → cond (not b) (1 + position_or_len t xs) 0 < length (x ∷ xs)
    by true f e r = omega arith
    by false f e r = omega (arith, r e)

  pub position_passes : (t : X → Bool) (xs : List X) → position_or_len t xs < length xs → (x : X) × (slice_get xs (position_or_len t xs) ≡ Some x) × (t x ≡ true)
  position_passes t [] l = absurd (omega (arith, l))
  position_passes t (x ∷ xs) l = by (t x) refl l (position_passes t xs) where
    by : (b : Bool) → t x ≡ b → cond (not b) (1 + position_or_len t xs) 0 < length (x ∷ xs)
        → (position_or_len t xs < length xs → (x : X) × (slice_get xs (position_or_len t xs) ≡ Some x) × (t x ≡ true))
        → (y : X) × (slice_get (x ∷ xs) (cond (not b) (1 + position_or_len t xs) 0) ≡ Some y) × (t y ≡ true)
    by true f l r = (x, refl, f)
    by false f l r =
        let rest = r (omega (arith, l)) in
        let next : suc (position_or_len t xs) ≡ 1 + position_or_len t xs = omega arith in
        (rest.0, subst (λ (k : ℕ). slice_get (x ∷ xs) k ≡ Some rest.0) next rest.1, rest.2)

  -- the element that is found
  pub found : (t : X → Bool) (xs : List X) → list_any t xs ≡ true → (x : X) × (find t xs ≡ Some x) × (t x ≡ true)
  found t [] e = absurd (grind (arith, e))
  found t (x ∷ xs) e = by (t x) refl e (found t xs) where
    by : (b : Bool) → t x ≡ b → (b || list_any t xs) ≡ true → (list_any t xs ≡ true → (y : X) × (find t xs ≡ Some y) × (t y ≡ true)) → (y : X) × (cond b (Some x) (find t xs) ≡ Some y) × (t y ≡ true)
    by true f e r = (x, refl, f)
    by false f e r = r e

  pub holds_of_found : (P : X → Type 0) (t : X → Bool) (xs : List X) (x : X) → AllByRecursion P xs → find t xs ≡ Some x → P x
  holds_of_found P t [] x a e = absurd (none-some x e)
  holds_of_found P t (y ∷ ys) x a e = by (t y) e (holds_of_found P t ys x a.1) where
    by : (b : Bool) → cond b (Some y) (find t ys) ≡ Some x → (find t ys ≡ Some x → P x) → P x
    by true e r = subst P (same_Some y x e) a.0
    by false e r = r e

module _ {X Y : Type 0} where
  pub all_map : (P : X → Type 0) (Q : Y → Type 0) (f : X → Y) → ((x : X) → P x → Q (f x)) → (xs : List X) → AllByRecursion P xs → AllByRecursion Q (map f xs)
  all_map P Q f each [] a = tt
  all_map P Q f each (x ∷ xs) a = (each x a.0, all_map P Q f each xs a.1)

  pub all_mapped : (Q : Y → Type 0) (f : X → Y) → ((x : X) → Q (f x)) → (xs : List X) → AllByRecursion Q (map f xs)
  all_mapped Q f each [] = tt
  all_mapped Q f each (x ∷ xs) = (each x, all_mapped Q f each xs)

  pub any_map : (t : Y → Bool) (u : X → Bool) (f : X → Y) → ((x : X) → t (f x) ≡ u x) → (xs : List X) → list_any t (map f xs) ≡ list_any u xs
  any_map t u f same [] = refl
  any_map t u f same (x ∷ xs) = λ i. same x i || any_map t u f same xs i

  pub list_all_map : (t : Y → Bool) (u : X → Bool) (f : X → Y) → ((x : X) → t (f x) ≡ u x) → (xs : List X) → list_all t (map f xs) ≡ list_all u xs
  list_all_map t u f same [] = refl
  list_all_map t u f same (x ∷ xs) = λ i. same x i && list_all_map t u f same xs i

  pub length_map : (f : X → Y) (xs : List X) → length (map f xs) ≡ length xs
  length_map f [] = refl
  length_map f (x ∷ xs) = λ i. suc (length_map f xs i)
