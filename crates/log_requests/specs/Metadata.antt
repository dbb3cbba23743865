-- Metadata: what a broker says of its topics. Kafka's documentation, "Metadata API". A broker knows of no other broker, and on a
-- follower no leader is known: this is the project's own.
pub mod Names
pub mod NameSets
use Rattle.std.specs.Prelude.{ℕ, ℤ, pos, false, not, List, [], ◌∷◌, length, map, bytes_eq, Option, Some, None, if◌then◌else◌}
use Rattle.std.specs.List.{filter, range_with_len}
use Rattle.responses.specs.declared.metadata.partition.MetadataPartition.{MetadataPartition}
use Rattle.frame_fields.specs.Names.{is_topic_name}
use Rattle.responses.specs.Metadata.{MetadataOfBroker, MetadataOfTopic, metadata_response, metadata_value, metadata_leader_id}
use Rattle.responses.specs.Responses.{response}
use Rattle.broker_state.specs.declared.config.Role.{Role}
use Rattle.broker_state.specs.declared.config.Role.TheVariants.{Leader, Follower}
use Rattle.answering.specs.declared.codes.ErrorCode.{ErrorCode}
use Rattle.answering.specs.declared.codes.ErrorCode.TheVariants.{UnknownTopicOrPartition, LeaderNotAvailable, InvalidTopic}
use Rattle.answering.specs.Codes.{no_error, code_number}
use Rattle.broker_state.specs.State.{ConfigValue, Topic, State, is_group_topic, topic_of}

-- the broker itself
abbrev pub metadata_of_broker : ConfigValue → MetadataOfBroker
metadata_of_broker g = record { node_id = g.node_id; host = g.host; port = g.port }

-- a leader leads every partition, a follower none
abbrev pub metadata_leader_of : Role → (node_id : ℤ) → Option ℤ
metadata_leader_of Leader node_id = Some node_id
metadata_leader_of Follower node_id = None

abbrev pub metadata_leader_code : Role → ℤ
metadata_leader_code Leader = no_error
metadata_leader_code Follower = code_number LeaderNotAvailable

abbrev pub metadata_leader : ConfigValue → Option ℤ
metadata_leader g = metadata_leader_of g.role g.node_id

abbrev pub metadata_of_partition : ConfigValue → (index : ℕ) → MetadataPartition
metadata_of_partition g index = record { code = metadata_leader_code g.role; index = pos index; leader = metadata_leader g }

-- a topic that the broker doesn't have
abbrev pub metadata_of_failed : ErrorCode → List ℕ → MetadataOfTopic
metadata_of_failed code name = record { code = code_number code; name = name; is_internal = false; partitions = [] }

abbrev pub metadata_of_topic : ConfigValue → Topic → MetadataOfTopic
metadata_of_topic g t = record {
  code = no_error;
  name = t.name;
  is_internal = is_group_topic t.name;
  partitions = map (metadata_of_partition g) (range_with_len 0 (length t.partitions));
}

abbrev pub metadata_of_found : ConfigValue → List ℕ → Option Topic → MetadataOfTopic
metadata_of_found g name None = metadata_of_failed UnknownTopicOrPartition name
metadata_of_found g name (Some t) = metadata_of_topic g t

-- what is said of a name
abbrev pub metadata_at : State → List ℕ → MetadataOfTopic
metadata_at s name =
    if is_topic_name name then metadata_of_found s.config name (topic_of s name) else metadata_of_failed InvalidTopic name

-- each name once, where it comes first
abbrev pub each_once : List (List ℕ) → List (List ℕ)
each_once [] = []
each_once (name ∷ names) = name ∷ filter (λ other. not (bytes_eq other name)) (each_once names)

-- of the names that are asked for, or of all topics
abbrev pub metadata_topics : State → Option (List (List ℕ)) → List MetadataOfTopic
metadata_topics s None = map (metadata_of_topic s.config) s.topics
metadata_topics s (Some names) = map (metadata_at s) (each_once names)

-- It has no entries: the broker and its topics are read from the state.
abbrev pub metadata_reply : State → ℤ → Option (List (List ℕ)) → List ℕ
metadata_reply s correlation names = response correlation metadata_response
    (metadata_value (metadata_of_broker s.config) (metadata_leader_id (metadata_leader s.config)) (metadata_topics s names))
