-- Members by their ids, over all groups.
use Rattle.std.specs.Prelude.{◌≡◌, ℕ, ◌+◌, ◌<◌, Bool, cond, List, [], ◌∷◌}
use Rattle.group_coordinator.specs.Members.{Member, has_id, member_id}
use Rattle.group_coordinator.specs.Groups.{Group}
use Rattle.group_coordinator.specs.Coordinators.{Groups}

-- how many pass a test
abbrev pub tally : {X : Type 0} → (X → Bool) → List X → ℕ
tally t [] = 0
tally t (x ∷ xs) = cond (t x) 1 0 + tally t xs

-- of how many members of these groups a test holds
abbrev pub tally_all : (Member → Bool) → List Group → ℕ
tally_all t [] = 0
tally_all t (g ∷ gs) = tally t g.members + tally_all t gs

-- nobody has this id
abbrev pub IsNobodys : List ℕ → Groups → Type 0
IsNobodys id v = tally_all (has_id id) v.groups ≡ 0

-- an id that was given: of a client, by a number below how many were
pub record WasGiven (id : List ℕ) (v : Groups) : Type 0 where
  pub client : List ℕ
  pub number : ℕ
  pub below : number < v.ids
  pub is_id : id ≡ member_id client v.settings.start number
