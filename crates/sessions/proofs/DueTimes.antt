-- Times that are over first, and those that aren't over.
use Rattle.std.proofs.Common.{◌≡◌, ℕ, ◌<◌, ◌≤◌, arith, true, false, List, [], ◌∷◌, length, get_or, leb, nat_cmp, Option, Some, None, IfSome, MatchOption, refl, ap}
use Rattle.std.specs.List.{All}
use Rattle.std.specs.Ordering.{is_gt, ordering_then}
use Rattle.std.proofs.lemmas.Bool.{false≢true}
use Rattle.std.proofs.lemmas.Bool.Decides.{nat_tests}

first_le : (a b : ℕ × ℕ) → is_gt (ordering_then (nat_cmp a.0 b.0) (nat_cmp a.1 b.1)) ≡ false → a.0 ≤ b.0
first_le a b is = grind (arith, is, nat_tests)

-- none is before the first
pub from_first : (a : ℕ × ℕ) (times : List (ℕ × ℕ)) → All (λ b. is_gt (ordering_then (nat_cmp a.0 b.0) (nat_cmp a.1 b.1)) ≡ false) times → All (λ b. a.0 ≤ b.0) times
from_first a times all = λ k d l. first_le a (get_or times k d) (all k d l)

pub none_there : (times : List (ℕ × ℕ)) → (0 < length times → false ≡ true) → times ≡ []
none_there [] some = refl
none_there (t ∷ ts) some = absurd (false≢true (some (omega arith)))

-- none is over where the first isn't
pub none_over : (due clock passed : ℕ) (times : List (ℕ × ℕ)) → passed ≡ clock → All (λ (t : ℕ × ℕ). due ≤ t.0) times → leb due passed ≡ false → All (λ (t : ℕ × ℕ). clock < t.0) times
none_over due clock passed times same all later = λ k d l.
    let from : due ≤ (get_or times k d).0 = all k d l in
    let after : passed < due = grind (arith, later, nat_tests) in
    omega (arith, from, after, same)

pub none_at_all : (clock : ℕ) (times : List (ℕ × ℕ)) → times ≡ [] → All (λ (t : ℕ × ℕ). clock < t.0) times
none_at_all clock times none = λ k d l.
    let long : length times ≡ 0 = ap length none in
    absurd (omega (arith, long, l))

-- none is over before the first
pub before_first : (clock : ℕ) (first : Option ℕ) (times : List (ℕ × ℕ)) → MatchOption first (times ≡ []) (λ due. All (λ (t : ℕ × ℕ). due ≤ t.0) times) → IfSome first (λ due. clock < due) → All (λ (t : ℕ × ℕ). clock < t.0) times
before_first clock None times none before = none_at_all clock times none
before_first clock (Some due) times all before = λ k d l.
    let from : due ≤ (get_or times k d).0 = all k d l in
    omega (arith, from, before)
