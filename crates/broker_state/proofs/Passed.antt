-- Checks that find no fault.
use Rattle.std.proofs.Common.{◌≡◌, Bool, true, false, List, [], ◌∷◌, ◌++◌, Option, Some, None, refl}
use Rattle.std.specs.Option.{option_or}
use Rattle.answering.specs.Lists.{fault_if, first_some}

pub none_first : {X : Type 0} (x y : Option X) → option_or x y ≡ None → (x ≡ None) × (y ≡ None)
none_first (Some x) y e = absurd cc
none_first None y e = (refl, e)

pub none_both : {X : Type 0} (xs ys : List (Option X)) → first_some (xs ++ ys) ≡ None → (first_some xs ≡ None) × (first_some ys ≡ None)
none_both [] ys e = (refl, e)
none_both (None ∷ xs) ys e = none_both xs ys e
none_both (Some x ∷ xs) ys e = absurd cc

pub no_fault : {E : Type 0} (b : Bool) (e : E) → fault_if b e ≡ None → b ≡ false
no_fault true e h = absurd cc
no_fault false e h = refl
