use Rattle.std.proofs.Common.{rules, refl, Option}
use Rattle.std.specs.Int.{w32}
use Rattle.std.proofs.lemmas.Int.{to_z-of_z}
use Rattle.request_frames.specs.Fetch.{fetch_partition, fetch_partition_value, fetch_view}
use Rattle.responses.specs.Fetch.{fetched_bytes}
use Rattle.answering.specs.declared.memory.Memory.{Memory}
use Rattle.answering.proofs.Planned.{plan_responded}
use Rattle.log_requests.specs.Fetch.{FetchRoom, fetch_plan}
use Rattle.answering.proofs.Begun.{on_ok}
use Rattle.log_requests.proofs.FetchReplies.{fetch_may, fetch_sends}
use Rattle.log_requests.proofs.fetch.reply_to_fetch.Goals as goal

pub returns-clause-responds : goal.returns-clause-responds
returns-clause-responds g c =
    let s = c.args.state.now in
    let n = c.args.correlation in
    on_ok c.respond.result
    (λ e. plan_responded (fetch_plan s n (fetch_view c.args.request.now)) fetch_partition _ fetch_partition_value (λ (before : FetchRoom × Option Memory). before.0) (fetch_may s) fetched_bytes n _ _ _ _ _ _ _ _ _ s
    (search rules) refl refl (fetch_sends n) (to_z-of_z w32 n c.ranges.correlation) refl e)
    c.respond.ensures.responds
