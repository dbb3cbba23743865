-- What requests of members say, apart from where their bytes lie.
use Rattle.std.specs.Prelude.{◌≡◌, ℕ, List}
use Rattle.member_frames.specs.declared.parsing.MemberHeader.{MemberHeader}
use Rattle.member_frames.specs.declared.parsing.MemberRequest.{MemberRequest}
use Rattle.member_frames.specs.declared.parsing.MemberBody.{MemberBody}
use Rattle.member_frames.specs.declared.parsing.MemberBody.TheVariants as variants
use Rattle.request_frames.specs.Requests.{key_of, version_of, correlation_of}
use Rattle.member_frames.specs.JoinGroup.{join_group_view}
use Rattle.member_frames.specs.SyncGroup.{sync_group_view}
use Rattle.member_frames.specs.Heartbeat.{heartbeat_view}
use Rattle.member_frames.specs.LeaveGroup.{leave_group_view}
use Rattle.member_frames.specs.MemberRequests.MemberBodyValue.{join_group, sync_group, heartbeat, leave_group}
use Rattle.member_frames.specs.MemberRequests.{MemberBodyValue, MemberRequestValue}

abbrev pub member_body : MemberBody → MemberBodyValue
member_body (variants.JoinGroup r) = join_group (join_group_view r)
member_body (variants.SyncGroup r) = sync_group (sync_group_view r)
member_body (variants.Heartbeat r) = heartbeat (heartbeat_view r)
member_body (variants.LeaveGroup r) = leave_group (leave_group_view r)

abbrev pub member_request_value : MemberRequest → MemberRequestValue
member_request_value q = record { api = q.api; correlation = q.correlation; client = q.client.now; body = member_body q.body }

-- the fixed fields at the front of a frame
pub record IsMemberHeader (frame : List ℕ) (h : MemberHeader) : Type 0 where
  pub key : h.key ≡ key_of frame
  pub version : h.version ≡ version_of frame
  pub correlation : h.correlation ≡ correlation_of frame
