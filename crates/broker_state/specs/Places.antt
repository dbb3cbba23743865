-- Where a broker holds a partition.
use Rattle.std.specs.Prelude.{◌≡◌, ℕ, ℤ, pos, true, List, Some, position, bytes_eq}
use Rattle.broker_state.specs.declared.place.Place.{Place}
use Rattle.broker_state.specs.State.{State, is_known}

-- the place of the partition of a name and a number: it is one of the first topic of that name
pub record IsPlaceOf (s : State) (name : List ℕ) (p : ℤ) (place : Place) : Type 0 where
  pub known : is_known s name p ≡ true
  pub topic : Some place.topic ≡ position (λ t. bytes_eq t.name name) s.topics
  pub partition : p ≡ pos place.partition

-- the place of some partition
abbrev pub IsPlace : State → Place → Type 0
IsPlace s place = (name : List ℕ) × (p : ℤ) × IsPlaceOf s name p place
