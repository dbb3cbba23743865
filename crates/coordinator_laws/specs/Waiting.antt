-- Until when members wait.
use Rattle.std.specs.Prelude.{⊤, ◌⊎◌, ℕ, ◌<◌, IfSome}
use Rattle.group_coordinator.specs.declared.values.Phase.{Phase}
use Rattle.group_coordinator.specs.declared.values.Phase.TheVariants.{Preparing, Completing, Stable}
use Rattle.group_coordinator.specs.Groups.{Group}
use Rattle.group_coordinator.specs.Coordinators.{Groups}
use Rattle.group_coordinator.specs.Times.{next_time}
use Rattle.coordinator_laws.specs.Soundness.{NoneSyncs}

-- Members that wait in this phase do so until it ends, and that is later than now: none waits for the others in a group that
-- doesn't prepare, and none for its leader but in one that completes.
abbrev pub WaitsIn : (now : ℕ) → Group → Phase → Type 0
WaitsIn now g (Preparing t) = now < t
WaitsIn now g (Completing t) = (now < t) ⊎ NoneSyncs g.members
WaitsIn now g Stable = ⊤

-- it isn't time yet for something to expire
abbrev pub IsBeforeNext : Groups → Type 0
IsBeforeNext v = IfSome (next_time v) (λ t. v.now < t)
