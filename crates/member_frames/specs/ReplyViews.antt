-- The parts of a response to a JoinGroup, apart from where their bytes lie.
use Rattle.member_frames.specs.declared.replies.join_group.JoinedHead.{JoinedHead}
use Rattle.member_frames.specs.declared.replies.join_group.JoinedMember.{JoinedMember}
use Rattle.member_frames.specs.MemberReplies.{JoinedHeadValue, JoinedMemberValue}

abbrev pub joined_head : JoinedHead → JoinedHeadValue
joined_head h = record { code = h.code; generation = h.generation; protocol = h.protocol.now; leader = h.leader.now; member = h.member.now }

abbrev pub joined_member : JoinedMember → JoinedMemberValue
joined_member m = record { id = m.id.now; metadata = m.metadata.now }
