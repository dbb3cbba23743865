-- The response to Metadata, version 1: its fields, the values that these take, and the parts in which they are written.
-- Kafka's documentation, "Protocol Guide", section "The Messages". What is always answered with the same number stands
-- here as that number.
use Rattle.std.specs.Prelude.{ℕ, ℤ, pos, negsuc, Bool, List, [], ◌∷◌, ◌++◌, length, map, Option, Some, None}
use Rattle.std.specs.List.{flat_map}
use Rattle.responses.specs.declared.metadata.partition.MetadataPartition.{MetadataPartition}
use Rattle.frame_fields.specs.Fields.{Fields, end, array, Value, encoded}
use Rattle.frame_fields.specs.Types.{int16, int32, boolean, string, nullable_string, flag, ◌⨾◌}

-- a broker: node id, host, port, rack
abbrev pub metadata_broker_fields : Fields
metadata_broker_fields = int32 ⨾ string ⨾ int32 ⨾ nullable_string ⨾ end

-- a partition: error code, index, leader, replicas, in-sync replicas
abbrev pub metadata_partition_fields : Fields
metadata_partition_fields = int16 ⨾ int32 ⨾ int32 ⨾ array (int32 ⨾ end) (array (int32 ⨾ end) end)

-- a topic: error code, name, whether it is internal, partitions
abbrev pub metadata_topic_fields : Fields
metadata_topic_fields = int16 ⨾ string ⨾ boolean ⨾ array metadata_partition_fields end

-- brokers, controller, topics
abbrev pub metadata_response : Fields
metadata_response = array metadata_broker_fields (int32 ⨾ array metadata_topic_fields end)

pub record MetadataOfBroker : Type 0 where
  pub node_id : ℤ
  pub host : List ℕ
  pub port : ℕ

pub record MetadataOfTopic : Type 0 where
  pub code : ℤ
  pub name : List ℕ
  pub is_internal : Bool
  pub partitions : List MetadataPartition

-- there is no rack
abbrev pub metadata_broker_value : (node_id : ℤ) (host : List ℕ) (port : ℕ) → Value metadata_broker_fields
metadata_broker_value node_id host port = (node_id, (host, (pos port, (None, tt))))

-- a leader's node id, -1 where there is none
abbrev pub metadata_leader_id : Option ℤ → ℤ
metadata_leader_id None = negsuc 0
metadata_leader_id (Some node) = node

-- the leader is the one replica
abbrev pub metadata_replicas : Option ℤ → List (Value (int32 ⨾ end))
metadata_replicas None = []
metadata_replicas (Some node) = (node, tt) ∷ []

-- all replicas are in sync
abbrev pub metadata_partition_value : MetadataPartition → Value metadata_partition_fields
metadata_partition_value p = (p.code, (p.index, (metadata_leader_id p.leader, (metadata_replicas p.leader, (metadata_replicas p.leader, tt)))))

abbrev pub metadata_topic_value : MetadataOfTopic → Value metadata_topic_fields
metadata_topic_value t = (t.code, (t.name, (flag t.is_internal, (map metadata_partition_value t.partitions, tt))))

-- there is one broker
abbrev pub metadata_value : MetadataOfBroker → (controller : ℤ) → List MetadataOfTopic → Value metadata_response
metadata_value b controller ts = (metadata_broker_value b.node_id b.host b.port ∷ [], (controller, (map metadata_topic_value ts, tt)))

-- before the topics: the broker, the controller, the count of the topics
abbrev pub metadata_head : (node_id : ℤ) (host : List ℕ) (port : ℕ) (controller : ℤ) (count : ℕ) → List ℕ
metadata_head node_id host port controller count =
    encoded (array metadata_broker_fields (int32 ⨾ int32 ⨾ end)) (metadata_broker_value node_id host port ∷ [], (controller, (pos count, tt)))

-- before a topic's partitions: error code, name, whether it is internal, their count
abbrev pub metadata_topic_head : (code : ℤ) (name : List ℕ) (is_internal : Bool) (count : ℕ) → List ℕ
metadata_topic_head code name is_internal count =
    encoded (int16 ⨾ string ⨾ boolean ⨾ int32 ⨾ end) (code, (name, (flag is_internal, (pos count, tt))))

abbrev pub metadata_partition_bytes : MetadataPartition → List ℕ
metadata_partition_bytes p = encoded metadata_partition_fields (metadata_partition_value p)

abbrev pub metadata_topic_bytes : MetadataOfTopic → List ℕ
metadata_topic_bytes t =
    metadata_topic_head t.code t.name t.is_internal (length t.partitions) ++ flat_map metadata_partition_bytes t.partitions
