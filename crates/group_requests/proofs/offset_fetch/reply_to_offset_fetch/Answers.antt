use Rattle.std.proofs.Common.{refl, Option}
use Rattle.std.specs.Int.{w32}
use Rattle.std.proofs.lemmas.Int.{to_z-of_z}
use Rattle.request_frames.specs.OffsetFetch.{offset_fetch_partition, offset_fetch_partition_value, offset_fetch_view}
use Rattle.responses.specs.OffsetFetch.{fetched_offset_bytes}
use Rattle.answering.specs.declared.memory.Memory.{Memory}
use Rattle.answering.proofs.Begun.{on_ok}
use Rattle.answering.proofs.Planned.{plan_responded}
use Rattle.group_requests.specs.OffsetFetch.{offset_fetch_plan}
use Rattle.group_requests.proofs.OffsetFetchReplies.{offset_fetch_may, offset_fetch_sends}
use Rattle.group_requests.proofs.offset_fetch.reply_to_offset_fetch.Goals as goal

pub returns-clause-responds : goal.returns-clause-responds
returns-clause-responds g c =
    let s = c.args.state.now in
    let q = offset_fetch_view c.args.request.now in
    let n = c.args.correlation in
    on_ok c.respond.result
    (λ e. plan_responded (offset_fetch_plan s n q) offset_fetch_partition _ offset_fetch_partition_value (λ (before : Unit {0} × Option Memory). s) (offset_fetch_may (record { knows = c.walk_if_many.ensures }) s q c.names_more_than-too_many.result c.names_more_than-too_many.ensures) fetched_offset_bytes n _ _ _ _ _ _ _ _ _ s
    refl refl refl (offset_fetch_sends n) (to_z-of_z w32 n c.ranges.correlation) refl e)
    c.respond.ensures.responds
