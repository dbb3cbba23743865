-- How a move is done where it stands: who is meant by it; what is kept beside the groups, with room for each refusal that there
-- may be; and what was done.
use Rattle.std.specs.Prelude.{◌≡◌, ◌≤◌, ℕ, zero, suc, ◌+◌, ◌&&◌, ◌||◌, not, nat_le, Bool, true, List, [], ◌∷◌, ◌++◌, map, length, get_or, slice_set}
use Rattle.group_coordinator.specs.declared.values.Refusal.{Refusal}
use Rattle.group_coordinator.specs.declared.values.Wait.{Wait}
use Rattle.group_coordinator.specs.declared.values.Wait.TheVariants.{No, Joins, Syncs, Told, Assigned}
use Rattle.group_coordinator.specs.declared.who.Who.{Who}
use Rattle.group_coordinator.specs.declared.who.Who.TheVariants.{Everyone, Unjoined, Syncing, Silent}
use Rattle.group_coordinator.specs.Members.{Member, is_joining, is_syncing}
use Rattle.group_coordinator.specs.Groups.{Group, Move}
use Rattle.group_coordinator.specs.Coordinators.{AllMoved, kept}
use Rattle.group_coordinator.specs.Times.{is_waiting}

-- who is meant
abbrev pub chooses : Who → Member → Bool
chooses Everyone m = true
chooses Unjoined m = not (is_joining m.wait)
chooses Syncing m = is_syncing m.wait
chooses (Silent now over) m = not (is_waiting m) && (nat_le m.until now || over)

-- How many generations there were; the refusals that are ready; and how many there is room for.
pub record Noted : Type 0 where
  pub generations : ℕ
  pub refusals : List Refusal
  pub capacity : ℕ

-- with these refusals as well
abbrev pub refusing : Noted → List Refusal → Noted
refusing l rs = record l { refusals = l.refusals ++ rs }

abbrev pub numbering : Noted → ℕ → Noted
numbering l n = record l { generations = n }

-- there is room for so many more
abbrev pub HasRoom : Noted → ℕ → Type 0
HasRoom l n = length l.refusals + n ≤ l.capacity

-- so many requests wait, or have a reply that is ready: each of them may be refused
abbrev pub pending : Wait → ℕ
pending No = 0
pending (Joins k) = 1
pending (Syncs k) = 1
pending (Told k) = 1
pending (Assigned k) = 1

abbrev pub pending_of : List Member → ℕ
pending_of [] = 0
pending_of (m ∷ ms) = pending m.wait + pending_of ms

abbrev pub pending_in : List Group → ℕ
pending_in [] = 0
pending_in (g ∷ gs) = pending_of g.members + pending_in gs

-- the groups with this one in place of the one at an index, if it has members
abbrev pub put_back : List Group → ℕ → Group → List Group
put_back [] i h = kept h
put_back (g ∷ gs) zero h = kept h ++ gs
put_back (g ∷ gs) (suc i) h = g ∷ put_back gs i h

-- a move of each of some groups, also those that have no members behind it
abbrev pub each : Move → ℕ → List Group → AllMoved
each a n [] = record { groups = []; generations = n; refusals = [] }
each a n (g ∷ gs) = record {
  groups = (a n g).group ∷ (each a (a n g).generations gs).groups;
  generations = (each a (a n g).generations gs).generations;
  refusals = (a n g).refusals ++ (each a (a n g).generations gs).refusals;
}

-- A move was done: the group and what is kept beside it are what it leaves, its name stays, and whoever is refused waits no more.
pub record Does (a : Move) (l k : Noted) (g h : Group) : Type 0 where
  pub group : h ≡ (a l.generations g).group
  pub noted : k ≡ refusing (numbering l (a l.generations g).generations) (a l.generations g).refusals
  pub room : length (a l.generations g).refusals + pending_of h.members ≤ pending_of g.members
  pub name : h.name ≡ g.name

-- A move of each was done.
pub record DoesEach (a : Move) (l k : Noted) (gs hs : List Group) : Type 0 where
  pub groups : hs ≡ (each a l.generations gs).groups
  pub noted : k ≡ refusing (numbering l (each a l.generations gs).generations) (each a l.generations gs).refusals
  pub room : length (each a l.generations gs).refusals + pending_in hs ≤ pending_in gs
  pub names : map (λ g. g.name) hs ≡ map (λ g. g.name) gs

-- A move of the group at an index was done.
abbrev pub DoesAt : Move → Noted → Noted → ℕ → List Group → List Group → Type 0
DoesAt a l k i gs hs = (g : Group) → g ≡ get_or gs i g → (h : Group) × Does a l k g h × (hs ≡ slice_set gs i h)
