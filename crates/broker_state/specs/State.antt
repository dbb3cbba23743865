-- What a broker holds: its configuration, the content of each partition, and the next producer id. Kafka's design
-- documentation, "Replication" (a partition has one leader, and followers that copy it), and the broker setting
-- "offsets.topic.num.partitions" (committed offsets are kept in a topic of the broker's own). That this topic has one
-- partition is this project's own.
use Rattle.std.specs.Prelude.{ℕ, ℤ, pos, negsuc, Bool, is_some, List, [], ◌∷◌, ◌++◌, map, replicate, set, slice_get, codes, bytes_eq, Option, None, if◌then◌else◌}
use Rattle.std.specs.List.{find}
use Rattle.std.specs.Option.{unwrap_or, option_and_then}
use Rattle.content.specs.Content.{Content, empty}
use Rattle.broker_state.specs.declared.config.Role.{Role}

-- ---- configurations

-- a topic to be kept: its name, and how many partitions it has
pub record TopicConfig : Type 0 where
  pub name : List ℕ
  pub partitions : ℕ

pub record ConfigValue : Type 0 where
  pub role : Role
  pub node_id : ℤ
  pub host : List ℕ
  pub port : ℕ
  pub topics : List TopicConfig
  pub first_producer : ℤ

-- the broker's own topic, where groups keep their offsets
abbrev pub group_topic : List ℕ
group_topic = codes "__consumer_offsets"

abbrev pub is_group_topic : List ℕ → Bool
is_group_topic name = bytes_eq name group_topic

-- the topics in their order, the group topic last
abbrev pub all_topics : ConfigValue → List TopicConfig
all_topics g = g.topics ++ record { name = group_topic; partitions = 1 } ∷ []

-- ---- states

-- a topic's partitions, from 0 on
pub record Topic : Type 0 where
  pub name : List ℕ
  pub partitions : List Content

-- next_producer: the producer id that is given out next
pub record State : Type 0 where
  pub config : ConfigValue
  pub topics : List Topic
  pub next_producer : ℤ

-- every partition is empty
abbrev pub new_topic : TopicConfig → Topic
new_topic t = record { name = t.name; partitions = replicate t.partitions empty }

abbrev pub new_state : ConfigValue → State
new_state g = record { config = g; topics = map new_topic (all_topics g); next_producer = g.first_producer }

-- ---- partitions

abbrev pub topic_of : State → List ℕ → Option Topic
topic_of s name = find (λ t. bytes_eq t.name name) s.topics

abbrev pub partition_of : ℤ → Topic → Option Content
partition_of (pos p) t = slice_get t.partitions p
partition_of (negsuc p) t = None

-- the content of a topic's partition, if the broker has it
abbrev pub partition_at : State → List ℕ → ℤ → Option Content
partition_at s name p = option_and_then (partition_of p) (topic_of s name)

abbrev pub is_known : State → List ℕ → ℤ → Bool
is_known s name p = is_some (partition_at s name p)

-- that content; of an unknown partition the empty one
abbrev pub content_at : State → List ℕ → ℤ → Content
content_at s name p = unwrap_or (partition_at s name p) empty

-- the topic with another content of one partition
abbrev pub with_partition : ℤ → Content → Topic → Topic
with_partition (pos p) c t = record t { partitions = set t.partitions p c }
with_partition (negsuc p) c t = t

-- that of the first topic of the name
abbrev pub with_partition_of : List ℕ → ℤ → Content → List Topic → List Topic
with_partition_of name p c [] = []
with_partition_of name p c (t ∷ ts) =
    if bytes_eq t.name name then with_partition p c t ∷ ts else t ∷ with_partition_of name p c ts

-- the state with another content of one partition; of an unknown one the state itself
abbrev pub with_content : State → List ℕ → ℤ → Content → State
with_content s name p c = record s { topics = with_partition_of name p c s.topics }
