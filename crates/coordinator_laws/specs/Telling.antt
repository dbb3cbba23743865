-- What members are told of a generation.
use Rattle.std.specs.Prelude.{⊤, ◌≡◌, true, false, List, [], ◌∷◌}
use Rattle.std.specs.List.{AllByRecursion}
use Rattle.group_coordinator.specs.declared.values.Settings.{Settings}
use Rattle.group_coordinator.specs.Members.{Member, is_ready}
use Rattle.group_coordinator.specs.Groups.{Group, JoinReply, is_preparing, protocol_name, leader_id}
use Rattle.group_coordinator.specs.Coordinators.{Groups, is_any_ready}
use Rattle.group_coordinator.specs.Runs.{Act, behind_all}
use Rattle.group_coordinator.specs.Runs.Act.{Ask, Expire}
use Rattle.coordinator_laws.specs.Generations.{IsOf}

-- Nothing is ready, for whoever, when something is asked or expires.
abbrev pub IsInTurn : Act → Groups → Type 0
IsInTurn (Ask k client q) v = is_any_ready v ≡ false
IsInTurn Expire v = is_any_ready v ≡ false
IsInTurn a v = ⊤

abbrev pub AllInTurn : Settings → List Act → Type 0
AllInTurn o [] = ⊤
AllInTurn o (a ∷ before) = IsInTurn a (behind_all o before) × AllInTurn o before

-- none of these members has a reply that is ready
abbrev pub NoneReady : List Member → Type 0
NoneReady ms = AllByRecursion (λ m. is_ready m.wait ≡ false) ms

-- While members join, nothing is ready for them.
abbrev pub ReadyStands : Group → Type 0
ReadyStands g = is_preparing g.phase ≡ true → NoneReady g.members

-- A reply tells of the generation of a group that stands.
pub record TellsOf (r : JoinReply) (v : Groups) : Type 0 where
  pub group : Group
  pub among : IsOf group v.groups
  pub stands : is_preparing group.phase ≡ false
  pub generation : r.generation ≡ group.generation
  pub protocol : r.protocol ≡ protocol_name group
  pub leader : r.leader ≡ leader_id group

-- Two replies tell the same of a generation.
pub record TellAlike (r s : JoinReply) : Type 0 where
  pub protocol : s.protocol ≡ r.protocol
  pub leader : s.leader ≡ r.leader
