use Rattle.std.proofs.Common.{ℕ}
use Rattle.std.specs.Prelude.{map}
use Rattle.frame_fields.specs.Arrays.{values}
use Rattle.request_frames.specs.Fetch.{fetch_partition, fetch_partition_value}
use Rattle.sessions.specs.Joining.{Joins, KeepsStanders, entries_of}
use Rattle.sessions.proofs.Counting.{Counting}
use Rattle.sessions.proofs.waiting.Waiting.add_topic.Given as goal

-- the others wait as they did, and what was counted so far
abbrev pub invariant-loop-entry : goal.invariant-loop-entry
invariant-loop-entry g l =
    ((due : ℕ × ℕ) → Joins l.fn.state l.fn.number due l.initial.self l.self)
    × Counting l.fn.state l.fn.number l.initial.self l.self l.fn.before l.count
    (entries_of l.fn.topic.name.now (map fetch_partition_value (values fetch_partition l.entry-iterator)))
    (entries_of l.fn.topic.name.now (map fetch_partition_value (values fetch_partition l.fn.topic.partitions)))
    × KeepsStanders l.fn.number l.initial.self l.self
