-- What a configuration says, apart from where it lies in memory.
use Rattle.std.specs.Prelude.{map}
use Rattle.std.specs.String.{string_bytes}
use Rattle.broker_state.specs.declared.config.Config.{Config}
use Rattle.broker_state.specs.declared.config.TopicConfig as declared
use Rattle.broker_state.specs.State.{TopicConfig, ConfigValue}

abbrev pub topic_config : {A : Type 0} → declared.TopicConfig A → TopicConfig
topic_config t = record { name = string_bytes t.name; partitions = t.partitions }

abbrev pub config_value : {A : Type 0} → Config A → ConfigValue
config_value g = record {
  role = g.role;
  node_id = g.node_id;
  host = string_bytes g.host;
  port = g.port;
  topics = map topic_config g.topics.items;
  first_producer = g.first_producer;
}
