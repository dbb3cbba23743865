-- When a group is sound: what holds of each group behind any acts.
use Rattle.std.specs.Prelude.{◌≡◌, ℕ, ◌<◌, ◌&&◌, nat_lt, true, false, List, [], length}
use Rattle.std.specs.List.{AllByRecursion, list_any, list_all}
use Rattle.group_coordinator.specs.declared.values.Phase.{Phase}
use Rattle.group_coordinator.specs.declared.values.Phase.TheVariants.{Preparing, Completing, Stable}
use Rattle.group_coordinator.specs.Members.{Member, has_id, is_joining, is_syncing, knows}
use Rattle.group_coordinator.specs.Groups.{Group, is_leader, protocols_of, protocol_name}
use Rattle.group_coordinator.specs.Coordinators.{Groups}
use Rattle.group_coordinator.specs.Keeping.{AreApart, ArePeopled}

-- each of these members knows a protocol of this name
abbrev pub AllKnow : List ℕ → List Member → Type 0
AllKnow name ms = AllByRecursion (λ m. knows name m.protocols ≡ true) ms

-- each has an id
abbrev pub AllNamed : List Member → Type 0
AllNamed ms = AllByRecursion (λ m. has_id [] m ≡ false) ms

abbrev pub NoneSyncs : List Member → Type 0
NoneSyncs ms = AllByRecursion (λ m. is_syncing m.wait ≡ false) ms

abbrev pub NoneJoins : List Member → Type 0
NoneJoins ms = AllByRecursion (λ m. is_joining m.wait ≡ false) ms

-- A group in a generation: all members were told of it, and none joins; its leader is a member; the protocol that it follows is
-- one of the leader's, and all know it.
pub record IsBegun (g : Group) : Type 0 where
  pub numbered : 0 < g.generation
  pub all_told : AllByRecursion (λ m. m.is_told ≡ true) g.members
  pub none_joins : NoneJoins g.members
  pub led : list_any (is_leader g) g.members ≡ true
  pub chosen : g.protocol < length (protocols_of g.leader g.members)
  pub all_know : AllKnow (protocol_name g) g.members

-- not all members have joined, where that would begin the next generation
abbrev pub IsUnsettled : Group → Type 0
IsUnsettled g = (nat_lt 0 (length g.members) && (nat_lt 0 g.generation && list_all (λ m. is_joining m.wait) g.members)) ≡ false

-- Who waits for the leader does so while it gives the parts; the leader doesn't.
abbrev pub IsSoundIn : Group → Phase → Type 0
IsSoundIn g (Preparing t) = NoneSyncs g.members × IsUnsettled g
IsSoundIn g (Completing t) = IsBegun g × AllByRecursion (λ m. (is_leader g m && is_syncing m.wait) ≡ false) g.members
IsSoundIn g Stable = IsBegun g × NoneSyncs g.members

-- A sound group: its members have ids, some protocol is known to all of them, and what its phase says holds.
pub record IsSound (g : Group) : Type 0 where
  pub common : List ℕ
  pub known : AllKnow common g.members
  pub named : AllNamed g.members
  pub in_phase : IsSoundIn g g.phase

-- Sound groups: each is, none is without members, and no two have one name.
pub record AreSound (v : Groups) : Type 0 where
  pub each : AllByRecursion IsSound v.groups
  pub peopled : ArePeopled v.groups
  pub apart : AreApart v.groups
