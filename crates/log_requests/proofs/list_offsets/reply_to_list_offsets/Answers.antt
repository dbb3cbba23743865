use Rattle.std.proofs.Common.{refl, Option}
use Rattle.std.specs.Int.{w32}
use Rattle.std.proofs.lemmas.Int.{to_z-of_z}
use Rattle.request_frames.specs.ListOffsets.{list_offsets_partition, list_offsets_partition_value, list_offsets_view}
use Rattle.responses.specs.ListOffsets.{list_offsets_answer_bytes}
use Rattle.answering.specs.declared.memory.Memory.{Memory}
use Rattle.answering.proofs.Planned.{plan_responded}
use Rattle.log_requests.specs.ListOffsets.{list_offsets_plan}
use Rattle.answering.proofs.Begun.{on_ok}
use Rattle.log_requests.proofs.ListOffsetsReplies.{list_offsets_may, list_offsets_sends}
use Rattle.log_requests.proofs.list_offsets.reply_to_list_offsets.Goals as goal

pub returns-clause-responds : goal.returns-clause-responds
returns-clause-responds g c =
    let s = c.args.state.now in
    let n = c.args.correlation in
    on_ok c.respond.result
    (λ e. plan_responded (list_offsets_plan s n (list_offsets_view c.args.request.now)) list_offsets_partition _ list_offsets_partition_value (λ (before : Unit {0} × Option Memory). s) (list_offsets_may s) list_offsets_answer_bytes n _ _ _ _ _ _ _ _ _ s
    refl refl refl (list_offsets_sends n) (to_z-of_z w32 n c.ranges.correlation) refl e)
    c.respond.ensures.responds
