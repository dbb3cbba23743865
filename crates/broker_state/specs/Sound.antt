-- What a broker can hold: topics as they are configured, in each partition a valid content, and an int64 as the next
-- producer id.
use Rattle.std.specs.Prelude.{◌≡◌, ◌^◌, ◌<◌, map, length, FitsSigned}
use Rattle.std.specs.List.{AllByRecursion}
use Rattle.std.specs.Int.{w32, w64}
use Rattle.content.specs.Content.{IsContent}
use Rattle.broker_state.specs.State.{TopicConfig, ConfigValue, Topic, State, all_topics}
use Rattle.broker_state.specs.Configs.{IsValidConfig}

-- a configuration that a broker can have: it has no fault, and its numbers are of their types
pub record IsSoundConfig (g : ConfigValue) : Type 0 where
  pub valid : IsValidConfig g
  pub node_id : FitsSigned w32 g.node_id
  pub port : g.port < 2 ^ 16
  pub first_producer : FitsSigned w64 g.first_producer

-- a topic's name, and how many partitions it has
abbrev pub shape_of : Topic → TopicConfig
shape_of t = record { name = t.name; partitions = length t.partitions }

-- each partition's content is valid
abbrev pub HoldsContents : Topic → Type 0
HoldsContents t = AllByRecursion IsContent t.partitions

-- The topics are those of a configuration that a broker can have, each partition's content is valid, and the next
-- producer id is of its type.
pub record IsSound (s : State) : Type 0 where
  pub config : IsSoundConfig s.config
  pub topics : map shape_of s.topics ≡ all_topics s.config
  pub contents : AllByRecursion HoldsContents s.topics
  pub next_producer : FitsSigned w64 s.next_producer
