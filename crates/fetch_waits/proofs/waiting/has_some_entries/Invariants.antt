use Rattle.std.proofs.Common.{◌≡◌, ◌+◌, ◌≤◌}
use Rattle.frame_fields.specs.Types.{topic}
use Rattle.frame_fields.specs.Arrays.{values}
use Rattle.request_frames.specs.Fetch.{fetch_partition}
use Rattle.fetch_waits.specs.declared.waiting.TheConstants.{MOST_ENTRIES}
use Rattle.fetch_waits.proofs.Counting.{asked}
use Rattle.fetch_waits.proofs.waiting.has_some_entries.Given as goal

abbrev pub invariant-loop-topic : goal.invariant-loop-topic
invariant-loop-topic l =
    (l.count + asked (values (topic fetch_partition) l.topic-iterator) ≡ asked (values (topic fetch_partition) l.fn.request.topics))
    × (l.count ≤ MOST_ENTRIES)
