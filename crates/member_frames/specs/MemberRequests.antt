-- The requests of members that are read: their fields, what they say, and which frames are refused. Kafka's documentation,
-- "Protocol Guide", sections "Request Header" and "The Messages".
use Rattle.std.specs.Prelude.{◌≡◌, ℕ, ◌<◌, ◌≤◌, ℤ, List, [], length}
use Rattle.member_frames.specs.declared.api.MemberApi.{MemberApi}
use Rattle.member_frames.specs.declared.api.MemberApi.TheVariants.{JoinGroup0, JoinGroup1, JoinGroup2, SyncGroup0, SyncGroup1, Heartbeat0, Heartbeat1, LeaveGroup0, LeaveGroup1}
use Rattle.frame_fields.specs.declared.error.FieldFault.{FieldFault}
use Rattle.frame_fields.specs.declared.error.FieldFault.TheVariants as field
use Rattle.frame_fields.specs.declared.error.FrameError.{FrameError}
use Rattle.frame_fields.specs.declared.error.FrameError.TheVariants as frame
use Rattle.frame_fields.specs.Fields.{Fields, Value, Encodes, Breaks}
use Rattle.frame_fields.specs.Types.{nullable_string, or_empty, ◌⨾◌}
use Rattle.request_frames.specs.Requests.{key_of, version_of, correlation_of, body_of}
use Rattle.member_frames.specs.MemberApis.{IsMemberApi, IsNoMemberApi}
use Rattle.member_frames.specs.JoinGroup.{JoinGroupValue, join_group_fields_0, join_group_fields, join_group_request_0, join_group_request}
use Rattle.member_frames.specs.SyncGroup.{SyncGroupValue, sync_group_fields, sync_group_request}
use Rattle.member_frames.specs.Heartbeat.{HeartbeatValue, heartbeat_fields, heartbeat_request}
use Rattle.member_frames.specs.LeaveGroup.{LeaveGroupValue, leave_group_fields, leave_group_request}

-- ---- what requests say

pub data MemberBodyValue : Type 0 where
  join_group : JoinGroupValue → MemberBodyValue
  sync_group : SyncGroupValue → MemberBodyValue
  heartbeat : HeartbeatValue → MemberBodyValue
  leave_group : LeaveGroupValue → MemberBodyValue

-- the client id is empty where it is null
pub record MemberRequestValue : Type 0 where
  pub api : MemberApi
  pub correlation : ℤ
  pub client : List ℕ
  pub body : MemberBodyValue

-- ---- the table of requests

-- the fields that follow the client id, and what their values say
pub record MemberSaid : Type 0 where
  pub fields : Fields
  pub body : Value fields → MemberBodyValue

abbrev pub said_by_join_0 : MemberSaid
said_by_join_0 = record { fields = join_group_fields_0; body = λ v. join_group (join_group_request_0 v) }

abbrev pub said_by_join : MemberSaid
said_by_join = record { fields = join_group_fields; body = λ v. join_group (join_group_request v) }

abbrev pub said_by_sync : MemberSaid
said_by_sync = record { fields = sync_group_fields; body = λ v. sync_group (sync_group_request v) }

abbrev pub said_by_heartbeat : MemberSaid
said_by_heartbeat = record { fields = heartbeat_fields; body = λ v. heartbeat (heartbeat_request v) }

abbrev pub said_by_leave : MemberSaid
said_by_leave = record { fields = leave_group_fields; body = λ v. leave_group (leave_group_request v) }

abbrev pub said_by_member : MemberApi → MemberSaid
said_by_member JoinGroup0 = said_by_join_0
said_by_member JoinGroup1 = said_by_join
said_by_member JoinGroup2 = said_by_join
said_by_member SyncGroup0 = said_by_sync
said_by_member SyncGroup1 = said_by_sync
said_by_member Heartbeat0 = said_by_heartbeat
said_by_member Heartbeat1 = said_by_heartbeat
said_by_member LeaveGroup0 = said_by_leave
said_by_member LeaveGroup1 = said_by_leave

abbrev pub member_fields : MemberApi → Fields
member_fields api = (said_by_member api).fields

abbrev pub member_body_value : (api : MemberApi) → Value (member_fields api) → MemberBodyValue
member_body_value api v = (said_by_member api).body v

-- ---- frames

-- the client id, and the request's fields
abbrev pub member_body_fields : MemberApi → Fields
member_body_fields api = nullable_string ⨾ member_fields api

-- the frame has the key and the version of a request
pub record IsOfMember (api : MemberApi) (frame : List ℕ) : Type 0 where
  pub has_header : 8 ≤ length frame
  pub has_api : IsMemberApi (key_of frame) (version_of frame) api

-- the frame is the encoding of the request
abbrev pub IsMemberRequest : List ℕ → MemberRequestValue → Type 0
IsMemberRequest bytes q =
    (api : MemberApi) × IsOfMember api bytes × (v : Value (member_body_fields api)) × Encodes (member_body_fields api) v (body_of bytes) []
    × (q ≡ record { api = api; correlation = correlation_of bytes; client = or_empty v.0; body = member_body_value api v.1 })

abbrev pub HasMemberFault : FieldFault → List ℕ → Type 0
HasMemberFault e bytes = (api : MemberApi) × IsOfMember api bytes × Breaks (member_body_fields api) e (body_of bytes)

-- why a whole frame is no request of a member
abbrev pub IsMemberRefused : FrameError → List ℕ → Type 0
IsMemberRefused frame.NegativeSize bytes = ⊥
IsMemberRefused frame.TooLarge bytes = ⊥
IsMemberRefused frame.ShortHeader bytes = length bytes < 8
IsMemberRefused frame.UnknownApi bytes = (8 ≤ length bytes) × IsNoMemberApi (key_of bytes) (version_of bytes) frame.UnknownApi
IsMemberRefused frame.BadVersion bytes = (8 ≤ length bytes) × IsNoMemberApi (key_of bytes) (version_of bytes) frame.BadVersion
IsMemberRefused frame.ShortBody bytes = HasMemberFault field.ShortBody bytes
IsMemberRefused frame.Malformed bytes = HasMemberFault field.Malformed bytes
IsMemberRefused frame.TrailingBytes bytes =
    (api : MemberApi) × IsOfMember api bytes × (v : Value (member_body_fields api)) × (rest : List ℕ)
    × Encodes (member_body_fields api) v (body_of bytes) rest × (0 < length rest)
IsMemberRefused frame.OutOfMemory bytes = ⊥
