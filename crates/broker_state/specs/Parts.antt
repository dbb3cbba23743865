-- A topic as a broker holds it.
use Rattle.std.specs.Prelude.{◌≡◌, ℕ, List, map, replicate, length}
use Rattle.std.specs.List.{AllByRecursion}
use Rattle.content.specs.Content.{empty}
use Rattle.broker_state.specs.declared.config.Role.{Role}
use Rattle.broker_state.specs.State.{TopicConfig, ConfigValue, Topic, all_topics}
use Rattle.broker_state.specs.Partitions.{PartitionValue}

pub record TopicParts : Type 0 where
  pub name : List ℕ
  pub partitions : List PartitionValue

-- what its partitions hold
abbrev pub topic_contents : TopicParts → Topic
topic_contents t = record { name = t.name; partitions = map (λ p. p.content) t.partitions }

abbrev pub topic_shape : TopicParts → TopicConfig
topic_shape t = record { name = t.name; partitions = length t.partitions }

abbrev pub HasRole : Role → TopicParts → Type 0
HasRole role t = AllByRecursion (λ p. p.role ≡ role) t.partitions

-- the topics of a broker: those of its configuration, in the role that it has
pub record AreTopicsOf (g : ConfigValue) (ts : List TopicParts) : Type 0 where
  pub shapes : map topic_shape ts ≡ all_topics g
  pub roles : AllByRecursion (HasRole g.role) ts

-- every partition is empty
abbrev pub new_parts : Role → TopicConfig → TopicParts
new_parts role t = record { name = t.name; partitions = replicate t.partitions (record { role = role; content = empty }) }
