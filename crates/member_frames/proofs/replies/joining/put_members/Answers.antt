use Rattle.answering.proofs.Begun.{on_err_of, begins_both}
use Rattle.member_frames.proofs.replies.joining.put_members.Goals as goal

pub returns-in_err-put_joined_member-clause-begins : goal.returns-in_err-put_joined_member-clause-begins
returns-in_err-put_joined_member-clause-begins g c =
    on_err_of c.from_residual.result
    (begins_both c.args.out.now.items c.loop-member.out.items c.put_joined_member.new.out.items c.loop-member.invariant.1 c.in_err-put_joined_member.ensures.begins)
