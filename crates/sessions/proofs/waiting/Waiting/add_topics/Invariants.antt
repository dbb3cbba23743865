use Rattle.std.proofs.Common.{ℕ}
use Rattle.frame_fields.specs.Types.{topic}
use Rattle.frame_fields.specs.Arrays.{values}
use Rattle.request_frames.specs.Fetch.{fetch_partition, fetch_view}
use Rattle.sessions.specs.Joining.{Joins, KeepsStanders, entries_in}
use Rattle.sessions.proofs.Counting.{Counting, topics_in}
use Rattle.sessions.proofs.waiting.Waiting.add_topics.Given as goal

-- the others wait as they did, and what was counted so far
abbrev pub invariant-loop-topic : goal.invariant-loop-topic
invariant-loop-topic g l =
    ((due : ℕ × ℕ) → Joins l.fn.state l.fn.number due l.initial.self l.self)
    × Counting l.fn.state l.fn.number l.initial.self l.self 0 l.count (entries_in (topics_in (values (topic fetch_partition) l.topic-iterator))) (entries_in (fetch_view l.fn.asked).topics)
    × KeepsStanders l.fn.number l.initial.self l.self
