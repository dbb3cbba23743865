-- Who is a member of the generation that stands.
use Rattle.std.specs.Prelude.{◌≡◌, ◌⊎◌, ℕ, ℤ, pos, negsuc, true, false, List, length, ◌==◌, Some, None}
use Rattle.group_coordinator.specs.Members.{Member}
use Rattle.group_coordinator.specs.Groups.{Group, is_preparing, is_completing}
use Rattle.group_coordinator.specs.Coordinators.{Groups, group_named, member_of}

-- A member of this id, in the group of this name, was told of its generation, which has this number.
pub record IsOneOf (v : Groups) (name : List ℕ) (generation : ℤ) (id : List ℕ) : Type 0 where
  pub group : Group
  pub member : Member
  pub has_group : group_named name v ≡ Some group
  pub has_member : member_of id group ≡ Some member
  pub is_told : member.is_told ≡ true
  pub is_its : generation ≡ pos group.generation

-- ---- what is asked of a group that has a name, of a broker that follows none
pub record IsServed (v : Groups) (name : List ℕ) : Type 0 where
  pub named : (0 == length name) ≡ false
  pub follows_none : v.settings.follows ≡ false

-- Nobody joins anew in its generation.
pub record IsUndisturbed (v : Groups) (name : List ℕ) (generation : ℤ) (id : List ℕ) : Type 0 where
  pub one : IsOneOf v name generation id
  pub stands : is_preparing one.group.phase ≡ false

-- The leader gave the parts of its generation, or members join anew already.
pub record MayCommit (v : Groups) (name : List ℕ) (generation : ℤ) (id : List ℕ) : Type 0 where
  pub one : IsOneOf v name generation id
  pub given : is_completing one.group.phase ≡ false

-- A commit that names no generation, where the group has no members; or one of a member.
abbrev pub IsAdmissible : Groups → List ℕ → ℤ → List ℕ → Type 0
IsAdmissible v name generation id = ((generation ≡ negsuc 0) × (group_named name v ≡ None)) ⊎ MayCommit v name generation id
