use Rattle.std.specs.Prelude.{map}
use Rattle.frame_fields.specs.Arrays.{values}
use Rattle.frame_fields.specs.Types.{topic, topic_request}
use Rattle.request_frames.specs.Produce.{produce_partition, produce_partition_value}
use Rattle.broker_node.specs.Effects.{produced_to}
use Rattle.sessions.proofs.Marked.{MarksBut}
use Rattle.sessions.proofs.waiting.Waiting.mark_topics.Given as goal

-- those that are left aren't marked yet
abbrev pub invariant-loop-topic : goal.invariant-loop-topic
invariant-loop-topic g l =
    MarksBut l.fn.state l.fn.self l.self (produced_to (map (topic_request produce_partition produce_partition_value) (values (topic produce_partition) l.topic-iterator)))
    (produced_to (map (topic_request produce_partition produce_partition_value) (values (topic produce_partition) l.fn.topics)))
