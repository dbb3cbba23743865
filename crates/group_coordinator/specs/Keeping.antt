-- Which groups are kept, and what is counted of them.
use Rattle.std.specs.Prelude.{⊤, ◌≡◌, ◌≤◌, ℕ, true, false, nat_lt, List, [], ◌∷◌, length}
use Rattle.std.specs.List.{AllByRecursion, sum_by}
use Rattle.group_coordinator.specs.declared.values.TheConstants.{MOST_BYTES, MOST_GENERATION}
use Rattle.group_coordinator.specs.Groups.{Group, group_bytes}
use Rattle.group_coordinator.specs.Coordinators.{is_named}

-- no two groups have one name
abbrev pub AreApart : List Group → Type 0
AreApart [] = ⊤
AreApart (g ∷ gs) = AllByRecursion (λ h. is_named g.name h ≡ false) gs × AreApart gs

-- none is without members
abbrev pub ArePeopled : List Group → Type 0
ArePeopled gs = AllByRecursion (λ g. nat_lt 0 (length g.members) ≡ true) gs

-- so many bytes are counted for all groups, and that isn't too much
abbrev pub AreCounted : ℕ → List Group → Type 0
AreCounted bytes gs = (bytes ≡ sum_by group_bytes gs) × (bytes ≤ MOST_BYTES)

-- no generation has a number that is too great, the last one among them
abbrev pub AreNumbered : ℕ → List Group → Type 0
AreNumbered last gs = (last ≤ MOST_GENERATION) × AllByRecursion (λ g. g.generation ≤ MOST_GENERATION) gs
