-- Requests of members read from left to right, as the code goes; `MemberRequests` says what comes of it.
use Rattle.std.specs.Prelude.{List, ℕ}
use Rattle.member_frames.specs.declared.api.MemberApi.{MemberApi}
use Rattle.member_frames.specs.declared.api.MemberApi.TheVariants.{JoinGroup0, JoinGroup1, JoinGroup2, SyncGroup0, SyncGroup1, Heartbeat0, Heartbeat1, LeaveGroup0, LeaveGroup1}
use Rattle.frame_fields.specs.Types.{nullable_string, or_empty}
use Rattle.frame_fields.specs.Reading.{◌>>=◌, At, map_read, read_field, read_fields}
use Rattle.member_frames.specs.MemberRequests.MemberBodyValue.{join_group, sync_group, heartbeat, leave_group}
use Rattle.member_frames.specs.MemberRequests.{MemberBodyValue}
use Rattle.member_frames.specs.JoinGroup.{join_group_fields_0, join_group_fields, join_group_request_0, join_group_request}
use Rattle.member_frames.specs.SyncGroup.{sync_group_fields, sync_group_request}
use Rattle.member_frames.specs.Heartbeat.{heartbeat_fields, heartbeat_request}
use Rattle.member_frames.specs.LeaveGroup.{leave_group_fields, leave_group_request}

abbrev pub read_join_0 : List ℕ → At MemberBodyValue
read_join_0 bytes = map_read join_group (map_read join_group_request_0 (read_fields join_group_fields_0 bytes))

abbrev pub read_join : List ℕ → At MemberBodyValue
read_join bytes = map_read join_group (map_read join_group_request (read_fields join_group_fields bytes))

abbrev pub read_sync : List ℕ → At MemberBodyValue
read_sync bytes = map_read sync_group (map_read sync_group_request (read_fields sync_group_fields bytes))

abbrev pub read_heartbeat : List ℕ → At MemberBodyValue
read_heartbeat bytes = map_read heartbeat (map_read heartbeat_request (read_fields heartbeat_fields bytes))

abbrev pub read_leave : List ℕ → At MemberBodyValue
read_leave bytes = map_read leave_group (map_read leave_group_request (read_fields leave_group_fields bytes))

-- what stands behind the client id
abbrev pub read_member_body : MemberApi → List ℕ → At MemberBodyValue
read_member_body JoinGroup0 bytes = read_join_0 bytes
read_member_body JoinGroup1 bytes = read_join bytes
read_member_body JoinGroup2 bytes = read_join bytes
read_member_body SyncGroup0 bytes = read_sync bytes
read_member_body SyncGroup1 bytes = read_sync bytes
read_member_body Heartbeat0 bytes = read_heartbeat bytes
read_member_body Heartbeat1 bytes = read_heartbeat bytes
read_member_body LeaveGroup0 bytes = read_leave bytes
read_member_body LeaveGroup1 bytes = read_leave bytes

-- the client id, empty where it is null, and what stands behind it
pub record ClientAndBody : Type 0 where
  pub client : List ℕ
  pub body : MemberBodyValue

unfoldable pub read_member_request : MemberApi → List ℕ → At ClientAndBody
read_member_request api bytes = do
  client ← read_field nullable_string bytes
  map_read (λ body. record { client = or_empty client.0; body = body }) (read_member_body api client.1)
