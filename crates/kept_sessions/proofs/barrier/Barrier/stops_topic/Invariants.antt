use Rattle.std.specs.Prelude.{map}
use Rattle.frame_fields.specs.Arrays.{values}
use Rattle.request_frames.specs.Produce.{produce_partition, produce_partition_value}
use Rattle.kept_sessions.specs.Barring.{entries_to}
use Rattle.kept_sessions.proofs.Barred.{Carries}
use Rattle.kept_sessions.proofs.barrier.Barrier.stops_topic.Given as goal

-- what is said of the entries that are left holds of all
abbrev pub invariant-loop-entry : goal.invariant-loop-entry
invariant-loop-entry g l =
    Carries l.fn.self l.fn.state (entries_to l.fn.topic.name.now (map produce_partition_value (values produce_partition l.entry-iterator)))
    (entries_to l.fn.topic.name.now (map produce_partition_value (values produce_partition l.fn.topic.partitions)))
