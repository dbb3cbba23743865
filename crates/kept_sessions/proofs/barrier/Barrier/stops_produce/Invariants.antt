use Rattle.std.specs.Prelude.{map}
use Rattle.frame_fields.specs.Arrays.{values}
use Rattle.frame_fields.specs.Types.{topic, topic_request}
use Rattle.request_frames.specs.Produce.{produce_partition, produce_partition_value}
use Rattle.broker_node.specs.Effects.{produced_to}
use Rattle.kept_sessions.proofs.Barred.{Carries}
use Rattle.kept_sessions.proofs.barrier.Barrier.stops_produce.Given as goal

-- what is said of the topics that are left holds of all
abbrev pub invariant-loop-topic : goal.invariant-loop-topic
invariant-loop-topic g l =
    Carries l.fn.self l.fn.state (produced_to (map (topic_request produce_partition produce_partition_value) (values (topic produce_partition) l.topic-iterator)))
    (produced_to (map (topic_request produce_partition produce_partition_value) (values (topic produce_partition) l.fn.topics)))
