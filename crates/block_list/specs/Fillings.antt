-- A list that is filled.
use Rattle.std.specs.Prelude.{◌≡◌, ℕ, List, [], ◌∷◌, Option, Some, None}

-- its elements so far, and how many more there is room for
pub record FillingValue (X : Type 0) : Type 0 where
  pub items : List X
  pub room : ℕ

-- the first element of a list is taken out of it, if it has one
abbrev pub TakesFirst : {X : Type 0} → List X → List X → Option X → Type 0
TakesFirst old new (Some x) = old ≡ x ∷ new
TakesFirst old new None = (old ≡ []) × (new ≡ [])
