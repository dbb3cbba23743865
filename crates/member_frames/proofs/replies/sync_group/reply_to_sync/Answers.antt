use Rattle.std.proofs.Common.{ap, ◌∙◌}
use Rattle.std.specs.Int.{w16, w32}
use Rattle.std.proofs.lemmas.Int.{to_z-of_z}
use Rattle.answering.proofs.Begun.{on_ok}
use Rattle.member_frames.specs.MemberApis.{is_throttled}
use Rattle.member_frames.specs.MemberReplies.{throttle_bytes, sync_group_response, sync_group_value}
use Rattle.member_frames.proofs.ReplyParts.{replied, part_is}
use Rattle.member_frames.proofs.replies.sync_group.reply_to_sync.Goals as goal

pub returns-clause-replies : goal.returns-clause-replies
returns-clause-replies g c =
    let n = c.args.correlation in
    let code = c.args.code in
    let part = c.args.part.now in
    on_ok c.respond_once.result
    (replied (is_throttled c.args.api) sync_group_response (sync_group_value (record { code = code; part = part })) n _ c.throttle_time-before.result.now c.given_head.result part c.args.out.now.items c.respond_once.new.out.items
    (to_z-of_z w32 n c.ranges.correlation)
    (c.throttle_time-before.ensures.is_time ∙ ap throttle_bytes c.is_throttled.ensures)
    (part_is code _ c.given_head.result part (to_z-of_z w16 code c.ranges.code) c.given_head.ensures))
    c.respond_once.ensures.responds
