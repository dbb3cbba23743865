-- What a request may change, as it is told.
use Rattle.std.specs.Prelude.{List, [], ◌∷◌, map, Option, Some, None}
use Rattle.std.specs.Option.{unwrap_or}
use Rattle.frame_fields.specs.Arrays.{values}
use Rattle.frame_fields.specs.Types.{topic, topic_request}
use Rattle.request_frames.specs.Produce.{produce_partition, produce_partition_value}
use Rattle.broker_node.specs.declared.changes.MayChange.{MayChange}
use Rattle.broker_node.specs.declared.changes.MayChange.TheVariants.{Nothing, NextId, One, Produced}
use Rattle.broker_node.specs.Effects.{TopicPartition, produced_to}

-- the partitions, if anything may change
abbrev pub change_said : MayChange → Option (List TopicPartition)
change_said Nothing = None
change_said NextId = Some []
change_said (One name partition) = Some (record { topic = name.now; partition = partition } ∷ [])
change_said (Produced topics) =
    Some (produced_to (map (topic_request produce_partition produce_partition_value) (values (topic produce_partition) topics.now)))

-- the partitions that may change
abbrev pub places_said : MayChange → List TopicPartition
places_said change = unwrap_or (change_said change) []
