use Rattle.std.proofs.Common.{refl}
use Rattle.std.specs.Int.{w32}
use Rattle.std.proofs.lemmas.Int.{to_z-of_z}
use Rattle.request_frames.specs.OffsetCommit.{offset_commit_partition, offset_commit_partition_value, offset_commit_view}
use Rattle.responses.specs.OffsetCommit.{committed_partition_bytes}
use Rattle.answering.proofs.ToldPlans.{plan_responded_told}
use Rattle.broker_state.specs.State.{State}
use Rattle.group_requests.specs.OffsetCommit.{offset_commit_plan}
use Rattle.group_requests.proofs.OffsetCommitReplies.{offset_commit_tells, offset_commit_sends}
use Rattle.group_requests.proofs.offset_commit.reply_to_offset_commit.Goals as goal

pub returns-clause-responds : goal.returns-clause-responds
returns-clause-responds g c =
    let s = c.args.state.now in
    let q = offset_commit_view c.args.request.now in
    let n = c.args.correlation in
    plan_responded_told (offset_commit_plan s n q) offset_commit_partition _ offset_commit_partition_value (λ (m : State). m) (offset_commit_tells q) committed_partition_bytes n _ _ _ _ _ _ _ _ _ _ _ c.respond.new.state
    c.of_all.ensures refl refl refl (offset_commit_sends n) (to_z-of_z w32 n c.ranges.correlation) c.in_ok-reserve.ensures.items c.in-Ok.ensures.responds
