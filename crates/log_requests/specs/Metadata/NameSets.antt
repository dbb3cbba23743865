-- A set of borrowed names, as names are put into it.
use Rattle.std.specs.Prelude.{ℕ, Bool, not, List, nat_eq, bytes_eq}
use Rattle.std.specs.List.{filter, list_any}
use Rattle.std.specs.Cmp.Lexicographic.{pointwise}
use Rattle.std.specs.Borrow.{Bor}

abbrev pub Borrowed : Type 0
Borrowed = Bor (List ℕ)

abbrev pub borrowed_eq : Borrowed → Borrowed → Bool
borrowed_eq x y = pointwise nat_eq x.now y.now

abbrev pub is_in : List (List ℕ) → List ℕ → Bool
is_in names name = list_any (bytes_eq name) names

-- the others among some names
abbrev pub others : List (List ℕ) → List (List ℕ) → List (List ℕ)
others names = filter (λ name. not (is_in names name))
