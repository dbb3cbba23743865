use Rattle.std.proofs.Common.{◌≡◌, ◌<◌, None, Some, ap, rules}
use Rattle.std.specs.Prelude.{map}
use Rattle.frame_fields.specs.Arrays.{values}
use Rattle.request_frames.specs.Fetch.{fetch_partition, fetch_partition_value, fetch_view}
use Rattle.fetch_waits.specs.Waiting.{awaited_bytes}
use Rattle.fetch_waits.specs.Waiting.Entries.{left_by_entries}
use Rattle.fetch_waits.proofs.Counting.{topics_in}
use Rattle.fetch_waits.proofs.Lacking.{topic_stops, topics_end, lacks_is}
use Rattle.fetch_waits.proofs.waiting.lacks_bytes.Goals as goal

pub returns-in-None-left_by_entries : goal.returns-in-None-left_by_entries
returns-in-None-left_by_entries g c =
    let awaited = awaited_bytes (fetch_view c.args.request.now) in
    let some : 0 < awaited = search rules in
    let none : left_by_entries c.args.state.now c.in-Some.topic.name.now awaited c.loop-topic.missing (map fetch_partition_value (values fetch_partition c.in-Some.topic.partitions)) ≡ None = search rules in
    lacks_is c.args.state.now (fetch_view c.args.request.now) None some (topic_stops c.args.state.now awaited c.loop-topic.missing _ _ _ _ (ap topics_in c.in-Some.ensures.steps) none c.loop-topic.invariant)

pub returns : goal.returns
returns g c =
    let awaited = awaited_bytes (fetch_view c.args.request.now) in
    let some : 0 < awaited = search rules in
    lacks_is c.args.state.now (fetch_view c.args.request.now) (Some c.loop-topic.missing) some (topics_end c.args.state.now awaited c.loop-topic.missing _ _ (ap topics_in c.in-None.ensures.steps.0) c.loop-topic.invariant)
