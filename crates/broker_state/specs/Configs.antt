-- Which configurations a broker refuses, and why. The limits and the order of the checks are this project's own; for the
-- names of topics see Kafka's documentation, "Operations", section "Adding and removing topics".
use Rattle.std.specs.Prelude.{◌≡◌, ℕ, pos, not, nat_lt, int_lt, List, [], ◌∷◌, length, bytes_eq, Option, Some, None}
use Rattle.std.specs.List.{list_any}
use Rattle.std.specs.Option.{option_or}
use Rattle.std.specs.Int.{is_in_range}
use Rattle.frame_fields.specs.Names.{is_topic_name}
use Rattle.broker_state.specs.declared.limits.TheConstants.{MAX_TOPICS, MAX_PARTITIONS, MAX_HOST_BYTES}
use Rattle.broker_state.specs.declared.error.ConfigError.{ConfigError}
use Rattle.broker_state.specs.declared.error.ConfigError.TheVariants.{BadHost, TooManyTopics, BadFirstProducer, BadTopic, BadPartitions, TopicTwice, OutOfMemory}
use Rattle.answering.specs.Lists.{fault_if, first_some}
use Rattle.broker_state.specs.State.{TopicConfig, ConfigValue, group_topic}

-- the first fault of a topic, where these names are taken
abbrev pub topic_fault : (taken : List (List ℕ)) → TopicConfig → Option ConfigError
topic_fault taken t = first_some (
    fault_if (not (is_topic_name t.name)) BadTopic
    ∷ fault_if (not (is_in_range 1 MAX_PARTITIONS t.partitions)) BadPartitions
    ∷ fault_if (list_any (bytes_eq t.name) taken) TopicTwice
    ∷ [])

-- that of the first topic with one; each topic takes its name
abbrev pub topics_fault : (taken : List (List ℕ)) → List TopicConfig → Option ConfigError
topics_fault taken [] = None
topics_fault taken (t ∷ ts) = option_or (topic_fault taken t) (topics_fault (t.name ∷ taken) ts)

-- the first fault of a configuration; the group topic's name is taken
abbrev pub config_fault : ConfigValue → Option ConfigError
config_fault g = first_some (
    fault_if (nat_lt MAX_HOST_BYTES (length g.host)) BadHost
    ∷ fault_if (nat_lt MAX_TOPICS (length g.topics)) TooManyTopics
    ∷ fault_if (int_lt g.first_producer (pos 0)) BadFirstProducer
    ∷ topics_fault (group_topic ∷ []) g.topics
    ∷ [])

abbrev pub IsValidConfig : ConfigValue → Type 0
IsValidConfig g = config_fault g ≡ None

-- Why a configuration is refused. One without a fault is refused only for lack of memory.
abbrev pub ConfigFault : ConfigValue → ConfigError → Type 0
ConfigFault g OutOfMemory = IsValidConfig g
ConfigFault g e = config_fault g ≡ Some e
