-- A partition as a broker holds it.
use Rattle.content.specs.Content.{Content}
use Rattle.broker_state.specs.declared.config.Role.{Role}
use Rattle.broker_state.specs.declared.config.Role.TheVariants.{Leader, Follower}
use Rattle.broker_state.specs.declared.partition.Held.{Held}
use Rattle.broker_state.specs.declared.partition.Held.TheVariants as held

-- what the broker is to it, and what it holds
pub record PartitionValue : Type 0 where
  pub role : Role
  pub content : Content

abbrev pub held_value : {S A C : Type 0} → Held S A C → PartitionValue
held_value (held.Leader log) = record { role = Leader; content = log }
held_value (held.Follower copy) = record { role = Follower; content = copy }
