-- Lists of checks of which the first ones pass, or one of them fails.
use Rattle.std.proofs.Common.{◌≡◌, Bool, true, false, List, [], ◌∷◌, ◌++◌, Option, Some, None, refl, append-nil, ap}
use Rattle.answering.specs.Lists.{first_some, fault_if}

pub one_passes : {E : Type 0} (a : Option E) (more : List (Option E)) → a ≡ None → first_some (a ∷ more) ≡ first_some more
one_passes None more e = refl
one_passes (Some x) more e = absurd cc

pub one_fails : {E : Type 0} (a : Option E) (code : E) (more : List (Option E)) → a ≡ Some code → first_some (a ∷ more) ≡ Some code
one_fails (Some x) code more e = e
one_fails None code more e = absurd cc

pub two_pass : {E : Type 0} (a b : Option E) (more : List (Option E)) → first_some (a ∷ b ∷ []) ≡ None → first_some (a ∷ b ∷ more) ≡ first_some more
two_pass None None more e = refl
two_pass None (Some x) more e = absurd cc
two_pass (Some x) b more e = absurd cc

pub two_fail : {E : Type 0} (a b : Option E) (code : E) (more : List (Option E)) → first_some (a ∷ b ∷ []) ≡ Some code → first_some (a ∷ b ∷ more) ≡ Some code
two_fail (Some x) b code more e = e
two_fail None (Some x) code more e = e
two_fail None None code more e = absurd cc

-- a check behind others
pub last_check : {E : Type 0} (xs : List (Option E)) (x : Option E) → first_some xs ≡ None → first_some (xs ++ x ∷ []) ≡ x
last_check [] (Some x) e = refl
last_check [] None e = refl
last_check (None ∷ xs) x e = last_check xs x e
last_check (Some y ∷ xs) x e = absurd cc

pub early_check : {E : Type 0} (xs : List (Option E)) (x : Option E) (code : E) → first_some xs ≡ Some code → first_some (xs ++ x ∷ []) ≡ Some code
early_check [] x code e = absurd cc
early_check (None ∷ xs) x code e = early_check xs x code e
early_check (Some y ∷ xs) x code e = e

pub none_behind : {E : Type 0} (xs : List (Option E)) → first_some (xs ++ []) ≡ first_some xs
none_behind xs = ap first_some (append-nil xs)

pub no_fault : {E : Type 0} (b : Bool) (e : E) → b ≡ false → fault_if b e ≡ None
no_fault false e h = refl
no_fault true e h = absurd cc

pub has_fault : {E : Type 0} (b : Bool) (e : E) → b ≡ true → fault_if b e ≡ Some e
has_fault true e h = refl
has_fault false e h = absurd cc

pub not_true : (b : Bool) → ¬ (b ≡ true) → b ≡ false
not_true true no_one = absurd (no_one refl)
not_true false no_one = refl
