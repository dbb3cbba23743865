-- Tests and options.
use Rattle.std.proofs.Common.{◌≡◌, ℕ, ◌≤◌, nat_le, Bool, true, false, cond, List, [], ◌∷◌, refl, arith}
use Rattle.std.specs.Prelude.{Option, Some, None, IfSome}
use Rattle.std.specs.List.{find, AllByRecursion}
use Rattle.std.specs.Option.{option_or, option_and_then}

pub by_test : {X : Type 0} (P : X → Type 0) (b : Bool) (x y : X) → P x → P y → P (cond b x y)
by_test P true x y p q = p
by_test P false x y p q = q

pub le_of : (a b : ℕ) → nat_le a b ≡ true → a ≤ b
le_of a b e = grind arith

pub some_weaker : {X : Type 0} (P Q : X → Type 0) → ((x : X) → P x → Q x) → (r : Option X) → IfSome r P → IfSome r Q
some_weaker P Q w None p = tt
some_weaker P Q w (Some x) p = w x p

pub some_or : {X : Type 0} (P : X → Type 0) (r s : Option X) → IfSome r P → IfSome s P → IfSome (option_or r s) P
some_or P None s p q = q
some_or P (Some x) s p q = p

pub some_then : {X Y : Type 0} (P : X → Type 0) (Q : Y → Type 0) (f : X → Option Y) (r : Option X) → ((x : X) → P x → IfSome (f x) Q) → IfSome r P
    → IfSome (option_and_then f r) Q
some_then P Q f None w p = tt
some_then P Q f (Some x) w p = w x p

pub find_some : {X : Type 0} (P : X → Type 0) (t : X → Bool) (xs : List X) → AllByRecursion P xs → IfSome (find t xs) (λ x. P x × (t x ≡ true))
find_some P t [] a = tt
find_some P t (x ∷ xs) a = by (t x) refl (find_some P t xs a.1) where
  by : (b : Bool) → t x ≡ b → IfSome (find t xs) (λ x. P x × (t x ≡ true)) → IfSome (cond b (Some x) (find t xs)) (λ x. P x × (t x ≡ true))
  by true e rest = (a.0, e)
  by false e rest = rest

pub all_weaker : {X : Type 0} (P Q : X → Type 0) → ((x : X) → P x → Q x) → (xs : List X) → AllByRecursion P xs → AllByRecursion Q xs
all_weaker P Q w [] a = tt
all_weaker P Q w (x ∷ xs) a = (w x a.0, all_weaker P Q w xs a.1)

pub all_true : {X : Type 0} (xs : List X) → AllByRecursion (λ _. Unit {0}) xs
all_true [] = tt
all_true (x ∷ xs) = (tt, all_true xs)
