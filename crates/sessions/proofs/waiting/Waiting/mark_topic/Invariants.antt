use Rattle.std.specs.Prelude.{map}
use Rattle.frame_fields.specs.Arrays.{values}
use Rattle.request_frames.specs.Produce.{produce_partition, produce_partition_value}
use Rattle.sessions.specs.Growing.{produced_in}
use Rattle.sessions.proofs.Marked.{MarksBut}
use Rattle.sessions.proofs.waiting.Waiting.mark_topic.Given as goal

-- those that are left aren't marked yet
abbrev pub invariant-loop-entry : goal.invariant-loop-entry
invariant-loop-entry g l =
    MarksBut l.fn.state l.fn.self l.self (produced_in l.fn.topic.name.now (map produce_partition_value (values produce_partition l.entry-iterator)))
    (produced_in l.fn.topic.name.now (map produce_partition_value (values produce_partition l.fn.topic.partitions)))
