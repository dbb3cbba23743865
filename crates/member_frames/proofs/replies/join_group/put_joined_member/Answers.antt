use Rattle.member_frames.specs.ReplyViews.{joined_member}
use Rattle.member_frames.proofs.ReplyParts.{put_member}
use Rattle.member_frames.proofs.replies.join_group.put_joined_member.Goals as goal

pub returns-clause-appends : goal.returns-clause-appends
returns-clause-appends g c =
    put_member c.put_data.result (joined_member c.args.member) c.args.out.now.items c.put_text.new.out.items c.put_data.new.out.items
    c.in_ok-put_text.ensures.appends c.put_data.ensures.appends
