use Rattle.std.proofs.Common.{◌≡◌}
use Rattle.std.specs.Prelude.{map}
use Rattle.frame_fields.specs.Arrays.{values}
use Rattle.request_frames.specs.Fetch.{fetch_partition, fetch_partition_value}
use Rattle.fetch_waits.specs.Waiting.Entries.{left_by_entries}
use Rattle.fetch_waits.proofs.waiting.left_by_entries.Given as goal

-- what the entries that are left leave is what all do
abbrev pub invariant-loop-entry : goal.invariant-loop-entry
invariant-loop-entry g l =
    left_by_entries l.fn.state l.fn.topic.name.now l.fn.awaited l.left (map fetch_partition_value (values fetch_partition l.entry-iterator))
    ≡ left_by_entries l.fn.state l.fn.topic.name.now l.fn.awaited l.fn.missing (map fetch_partition_value (values fetch_partition l.fn.topic.partitions))
