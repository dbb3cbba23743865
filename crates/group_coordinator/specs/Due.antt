-- From which time on something of a group may change by itself.
use Rattle.std.specs.Prelude.{◌≤◌, ℕ, ◌&&◌, nat_le, nat_lt, Bool, false, List, [], ◌∷◌, ◌++◌, Option, Some, None, if◌then◌else◌}
use Rattle.std.specs.List.{AllByRecursion, flat_map, list_all}
use Rattle.group_coordinator.specs.declared.values.Phase.{Phase}
use Rattle.group_coordinator.specs.declared.values.Phase.TheVariants.{Preparing}
use Rattle.group_coordinator.specs.Members.{is_joining}
use Rattle.group_coordinator.specs.Groups.{Group}
use Rattle.group_coordinator.specs.Times.{group_times}
use Rattle.group_coordinator.specs.Least.{earliest}

-- whether all members joined anew, so that the next generation may begin at once
abbrev pub may_begin : Group → Phase → Bool
may_begin g (Preparing t) = nat_lt 0 g.generation && list_all (λ m. is_joining m.wait) g.members
may_begin g p = false

-- the times from which on something of a group may change: those at which something expires, and any where a generation may begin
abbrev pub turning_times : Group → List ℕ
turning_times g = (if may_begin g g.phase then 0 ∷ [] else []) ++ group_times g

-- the first time from which on something of these groups may change
abbrev pub first_turn : List Group → Option ℕ
first_turn gs = earliest None (flat_map turning_times gs)

-- a time that is no later than another one; none is the latest
abbrev pub IsNoLater : Option ℕ → ℕ → Type 0
IsNoLater None t = ⊥
IsNoLater (Some d) t = d ≤ t

-- nothing of these groups may change before this time
abbrev pub ComesFirst : Option ℕ → List Group → Type 0
ComesFirst due gs = AllByRecursion (λ g. AllByRecursion (λ t. IsNoLater due t) (turning_times g)) gs

-- whether something may have changed by now
abbrev pub is_due : Option ℕ → (now : ℕ) → Bool
is_due None now = false
is_due (Some d) now = nat_le d now
