use Rattle.std.specs.Int.{w32}
use Rattle.std.proofs.lemmas.Int.{to_z-of_z}
use Rattle.answering.proofs.Begun.{on_ok}
use Rattle.member_frames.specs.ReplyViews.{joined_head}
use Rattle.member_frames.proofs.ReadBack.{join_replied}
use Rattle.member_frames.proofs.replies.joining.reply_to_join.Goals as goal

pub returns-clause-replies : goal.returns-clause-replies
returns-clause-replies g c =
    let n = c.args.correlation in
    on_ok c.respond_with.result
    (join_replied c.args.api (record { head = joined_head c.args.head; members = g.M.JoinedMembers.members c.args.members.now }) n _ c.is_throttled-throttled.result
    c.args.out.now.items c.respond_with.new.out.items (to_z-of_z w32 n c.ranges.correlation) c.is_throttled-throttled.ensures)
    c.respond_with.ensures.responds
