-- Brokers that hold the same, wherever their clients reach them and in whatever order they have their topics.
use Rattle.std.specs.Prelude.{◌≡◌, ℕ, ℤ, List, bytes_eq, Option}
use Rattle.std.specs.List.{find}
use Rattle.std.specs.Option.{option_map}
use Rattle.broker_state.specs.State.{TopicConfig, ConfigValue, State, partition_at}

-- They are the same to their partitions, these have the same contents, and the same producer id is given out next.
pub record HoldTheSame (s t : State) : Type 0 where
  pub role : s.config.role ≡ t.config.role
  pub next_producer : s.next_producer ≡ t.next_producer
  pub contents : (name : List ℕ) (p : ℤ) → partition_at s name p ≡ partition_at t name p

-- how many partitions these topics have under a name, if it is one of them
abbrev pub partitions_named : List TopicConfig → List ℕ → Option ℕ
partitions_named topics name = option_map (λ t. t.partitions) (find (λ t. bytes_eq t.name name) topics)

-- Configurations that differ in the broker's number, in where clients reach it and in the order of the topics alone.
pub record AskForTheSame (g h : ConfigValue) : Type 0 where
  pub role : g.role ≡ h.role
  pub first_producer : g.first_producer ≡ h.first_producer
  pub topics : (name : List ℕ) → partitions_named g.topics name ≡ partitions_named h.topics name
