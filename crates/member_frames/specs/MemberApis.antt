-- The table of the requests of members, by key and version. Kafka's documentation, "Protocol Guide", sections "Protocol API
-- Keys" and "The Messages".
use Rattle.std.specs.Prelude.{◌≡◌, ◌≢◌, ℤ, pos, Bool, true, false}
use Rattle.member_frames.specs.declared.api.MemberApi.{MemberApi}
use Rattle.member_frames.specs.declared.api.MemberApi.TheVariants.{JoinGroup0, JoinGroup1, JoinGroup2, SyncGroup0, SyncGroup1, Heartbeat0, Heartbeat1, LeaveGroup0, LeaveGroup1}
use Rattle.frame_fields.specs.declared.error.FrameError.{FrameError}
use Rattle.frame_fields.specs.declared.error.FrameError.TheVariants.{UnknownApi, BadVersion}

abbrev pub member_key : MemberApi → ℤ
member_key JoinGroup0 = pos 11
member_key JoinGroup1 = pos 11
member_key JoinGroup2 = pos 11
member_key Heartbeat0 = pos 12
member_key Heartbeat1 = pos 12
member_key LeaveGroup0 = pos 13
member_key LeaveGroup1 = pos 13
member_key SyncGroup0 = pos 14
member_key SyncGroup1 = pos 14

abbrev pub member_version : MemberApi → ℤ
member_version JoinGroup0 = pos 0
member_version JoinGroup1 = pos 1
member_version JoinGroup2 = pos 2
member_version Heartbeat0 = pos 0
member_version Heartbeat1 = pos 1
member_version LeaveGroup0 = pos 0
member_version LeaveGroup1 = pos 1
member_version SyncGroup0 = pos 0
member_version SyncGroup1 = pos 1

-- whether a response in this version begins with the throttle time
abbrev pub is_throttled : MemberApi → Bool
is_throttled JoinGroup0 = false
is_throttled JoinGroup1 = false
is_throttled JoinGroup2 = true
is_throttled Heartbeat0 = false
is_throttled Heartbeat1 = true
is_throttled LeaveGroup0 = false
is_throttled LeaveGroup1 = true
is_throttled SyncGroup0 = false
is_throttled SyncGroup1 = true

abbrev pub IsMemberApi : (key version : ℤ) → MemberApi → Type 0
IsMemberApi key version api = (key ≡ member_key api) × (version ≡ member_version api)

-- a member's request has this key
abbrev pub HasMemberKey : (key : ℤ) → Type 0
HasMemberKey key = (api : MemberApi) × (key ≡ member_key api)

-- a member's request has this key and version
abbrev pub HasMemberApi : (key version : ℤ) → Type 0
HasMemberApi key version = (api : MemberApi) × IsMemberApi key version api

-- why no request of a member has this key and version
abbrev pub IsNoMemberApi : (key version : ℤ) → FrameError → Type 0
IsNoMemberApi key version UnknownApi = (api : MemberApi) → key ≢ member_key api
IsNoMemberApi key version BadVersion =
    (known : MemberApi) × (key ≡ member_key known)
    × ((api : MemberApi) → key ≡ member_key api → version ≢ member_version api)
IsNoMemberApi key version e = ⊥
