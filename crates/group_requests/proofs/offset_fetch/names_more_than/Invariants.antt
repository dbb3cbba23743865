use Rattle.std.proofs.Common.{◌≡◌, ◌+◌, ◌≤◌}
use Rattle.frame_fields.specs.Types.{topic}
use Rattle.frame_fields.specs.Arrays.{values}
use Rattle.request_frames.specs.OffsetFetch.{offset_fetch_partition}
use Rattle.group_requests.proofs.OffsetFetchReplies.{named}
use Rattle.group_requests.proofs.offset_fetch.names_more_than.Given as goal

abbrev pub invariant-loop-topic : goal.invariant-loop-topic
invariant-loop-topic l =
    (l.count + named (values (topic offset_fetch_partition) l.topic-iterator) ≡ named (values (topic offset_fetch_partition) l.fn.request.topics))
    × (l.count ≤ l.most)
