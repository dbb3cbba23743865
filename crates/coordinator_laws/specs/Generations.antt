-- How generations follow each other.
use Rattle.std.specs.Prelude.{⊤, ◌≡◌, ◌⊎◌, ℕ, ◌≤◌, true, false, List, [], ◌∷◌}
use Rattle.std.specs.List.{AllByRecursion}
use Rattle.group_coordinator.specs.Groups.{Group, is_preparing, is_stable, protocol_name, leader_id}
use Rattle.group_coordinator.specs.Requests.{Part}
use Rattle.group_coordinator.specs.Joining.{part_of, is_led_by}
use Rattle.group_coordinator.specs.Coordinators.{Groups}

-- each member has the part that some parts have for it
abbrev pub HasParts : List Part → Group → Type 0
HasParts parts g = AllByRecursion (λ m. m.part ≡ part_of parts m.id) g.members

-- The members had their parts, and have them still.
pub record PartsStay (g h : Group) : Type 0 where
  pub stable : is_stable g.phase ≡ true
  pub parts : (parts : List Part) → HasParts parts g → HasParts parts h

-- The leader of a group gave these parts, and the members have them.
pub record IsGiven (g h : Group) : Type 0 where
  pub member : List ℕ
  pub leads : is_led_by member g ≡ true
  pub parts : List Part
  pub has : HasParts parts h

-- Two groups are the same one in the same generation: nobody joined anew in between; what its members are told of the protocol
-- and of the leader is the same, and so is who leads; and the parts were given before, and stay, or the leader gave them since.
pub record BeganAlike (g h : Group) : Type 0 where
  pub stood : is_preparing g.phase ≡ false
  pub protocol : protocol_name h ≡ protocol_name g
  pub leader : leader_id h ≡ leader_id g
  pub leads : (id : List ℕ) → is_led_by id h ≡ is_led_by id g
  pub given : is_stable h.phase ≡ true → PartsStay g h ⊎ IsGiven g h

-- A group is another one, later, in the same generation: it has its name, and where its generation stands it stood before.
pub record GoesOn (g h : Group) : Type 0 where
  pub name : h.name ≡ g.name
  pub generation : h.generation ≡ g.generation
  pub alike : is_preparing h.phase ≡ false → BeganAlike g h

-- one of these groups
abbrev pub IsOf : Group → List Group → Type 0
IsOf g [] = ⊥
IsOf g (h ∷ hs) = (g ≡ h) ⊎ IsOf g hs

-- no two groups have one generation, but that before the first
abbrev pub AreNumbered : List Group → Type 0
AreNumbered [] = ⊤
AreNumbered (g ∷ gs) = AllByRecursion (λ h. h.generation ≡ g.generation → h.generation ≡ 0) gs × AreNumbered gs

-- Generations have numbers of their own, none above how many there were.
pub record HaveNumbers (v : Groups) : Type 0 where
  pub bounded : AllByRecursion (λ g. g.generation ≤ v.generations) v.groups
  pub apart : AreNumbered v.groups

-- Where members have their parts, their leader gave them.
abbrev pub AreGiven : Group → Type 0
AreGiven g = is_stable g.phase ≡ true → IsGiven g g
