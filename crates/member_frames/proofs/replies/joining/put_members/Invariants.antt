use Rattle.std.proofs.Common.{◌≡◌, ◌++◌, drop}
use Rattle.std.specs.Prelude.{map}
use Rattle.std.specs.List.{flat_map}
use Rattle.answering.specs.Writing.{Begins}
use Rattle.member_frames.specs.MemberReplies.{joined_member_bytes}
use Rattle.member_frames.specs.ReplyViews.{joined_member}
use Rattle.member_frames.proofs.replies.joining.put_members.Given as goal

-- what is left to be written gives what all gives
abbrev pub invariant-loop-member : goal.invariant-loop-member
invariant-loop-member g l =
    (l.out.items ++ flat_map joined_member_bytes (map joined_member (drop l.member-index l.members)) ≡ l.fn.out.items ++ flat_map joined_member_bytes (map joined_member l.members))
    × Begins l.fn.out.items l.out.items
