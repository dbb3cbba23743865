use Rattle.std.proofs.Common.{◌≡◌}
use Rattle.frame_fields.specs.Types.{topic}
use Rattle.frame_fields.specs.Arrays.{values}
use Rattle.request_frames.specs.Fetch.{fetch_partition, fetch_view}
use Rattle.fetch_waits.specs.Waiting.{awaited_bytes}
use Rattle.fetch_waits.specs.Waiting.Entries.{left_by_topics}
use Rattle.fetch_waits.proofs.Counting.{topics_in}
use Rattle.fetch_waits.proofs.waiting.lacks_bytes.Given as goal

-- what the topics that are left leave is what all do
abbrev pub invariant-loop-topic : goal.invariant-loop-topic
invariant-loop-topic g l =
    let q = fetch_view l.fn.request in
    left_by_topics l.fn.state (awaited_bytes q) l.missing (topics_in (values (topic fetch_partition) l.topic-iterator)) ≡ left_by_topics l.fn.state (awaited_bytes q) (awaited_bytes q) q.topics
