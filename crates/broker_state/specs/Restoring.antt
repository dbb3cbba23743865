-- A copy put in the place of what a partition holds.
use Rattle.std.specs.Prelude.{◌≡◌, ℕ, ℤ, true, false, List, Result, Ok, Err}
use Rattle.content.specs.Content.{Content}
use Rattle.partition_log.specs.Appends.{IsGapless}
use Rattle.broker_state.specs.declared.config.Role.{Role}
use Rattle.broker_state.specs.declared.config.Role.TheVariants.{Leader}
use Rattle.broker_state.specs.declared.restoring.RestoreError.{RestoreError}
use Rattle.broker_state.specs.declared.restoring.RestoreError.TheVariants.{UnknownPartition, Gapped}
use Rattle.broker_state.specs.State.{State, is_known}

-- The broker has the partition, and what it leads must not have a gap.
pub record CanRestore (s : State) (name : List ℕ) (p : ℤ) (copy : Content) : Type 0 where
  pub known : is_known s name p ≡ true
  pub gapless : s.config.role ≡ Leader → IsGapless copy

-- the first of the two that isn't so
abbrev pub RefusesRestore : State → (name : List ℕ) (p : ℤ) (copy : Content) → RestoreError → Type 0
RefusesRestore s name p copy UnknownPartition = is_known s name p ≡ false
RefusesRestore s name p copy Gapped = (is_known s name p ≡ true) × (s.config.role ≡ Leader) × ¬ IsGapless copy

-- in a partition that the broker has: the copy stands there now, or it has a gap, and a leader doesn't take it
abbrev pub Restores : Role → (copy : Content) → Result (Unit {0}) RestoreError → (before after : Content) → Type 0
Restores role copy (Ok u) before after = (role ≡ Leader → IsGapless copy) × (after ≡ copy)
Restores role copy (Err UnknownPartition) before after = ⊥
Restores role copy (Err Gapped) before after = (role ≡ Leader) × ¬ IsGapless copy × (after ≡ before)
