-- How a member joins a group where it stands: the groups that it finds, which of the members it is, and what is counted for it.
use Rattle.std.specs.Prelude.{◌≡◌, ℕ, min, List, [], ◌∷◌, ◌++◌, map, get_or, slice_set, if◌then◌else◌, Some}
use Rattle.std.specs.List.{find, position}
use Rattle.std.specs.Option.{is_none}
use Rattle.group_coordinator.specs.Members.{Member, has_id}
use Rattle.group_coordinator.specs.Groups.{Group, new_group}
use Rattle.group_coordinator.specs.Joining.{with_last}
use Rattle.group_coordinator.specs.Coordinators.{is_named}

-- a sum, or the most that 64 bits can say
abbrev pub capped : ℕ → ℕ
capped n = min n 18446744073709551615

-- the groups with one of this name
abbrev pub opened : (name kind : List ℕ) → List Group → List Group
opened name kind gs = if is_none (find (is_named name) gs) then gs ++ new_group name kind ∷ [] else gs

-- The member at an index is the only one with this id: whatever changes is changed there.
abbrev pub IsOnly : List ℕ → ℕ → List Member → Type 0
IsOnly id i ms = (f : Member → Member) (m : Member) → m ≡ get_or ms i m → map (λ x. if has_id id x then f x else x) ms ≡ slice_set ms i (f m)

-- A member entered the group of this name.
abbrev pub Enters : (name kind : List ℕ) → Member → List Group → List Group → Type 0
Enters name kind m gs hs =
    (i : ℕ) × (position (is_named name) (opened name kind gs) ≡ Some i)
    × ((g : Group) → g ≡ get_or (opened name kind gs) i g → hs ≡ slice_set (opened name kind gs) i (with_last m g))
