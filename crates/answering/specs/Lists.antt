-- Lists of checks, and passes over lists that carry a state.
use Rattle.std.specs.Prelude.{Bool, List, [], ◌∷◌, Option, Some, None, if◌then◌else◌}
use Rattle.std.specs.Option.{option_or}

-- the fault, where the test holds
abbrev pub fault_if : {E : Type 0} → Bool → E → Option E
fault_if test fault = if test then Some fault else None

-- the first that is there
abbrev pub first_some : {X : Type 0} → List (Option X) → Option X
first_some [] = None
first_some (x ∷ xs) = option_or x (first_some xs)

-- A result for each element, from the first on, and the state that the last one leaves.
abbrev pub map_accum : {S X Y : Type 0} → (S → X → Y × S) → S → List X → List Y × S
map_accum f s [] = ([], s)
map_accum f s (x ∷ xs) =
    let first = f s x in let others = map_accum f first.1 xs in (first.0 ∷ others.0, others.1)
