-- The requests that clients are told of, where members of groups have a coordinator. Kafka's documentation, "Protocol Guide",
-- section "Retrieving Supported API versions". This project's own requests are not told of.
use Rattle.std.specs.Prelude.{◌≡◌, ◌⊎◌, ℕ, ℤ, ◌<ℤ◌, Bool, ◌&&◌, int_le, List, [], ◌∷◌, ⊤}
use Rattle.std.specs.List.{list_any}
use Rattle.std.specs.Ordering.{int_eq}
use Rattle.frame_fields.specs.Frames.{IsBytes}
use Rattle.responses.specs.declared.api_versions.range.VersionRange.{VersionRange}
use Rattle.request_frames.specs.declared.api.Api.{Api}
use Rattle.request_frames.specs.declared.api.Api.TheVariants.{Produce, Fetch, ListOffsets, Metadata, OffsetCommit, OffsetFetch, FindCoordinator, ApiVersions, InitProducerId}
use Rattle.request_frames.specs.Apis.{api_key, api_version}
use Rattle.request_frames.specs.Requests.{RequestValue, IsReadRequest, key_of, version_of}
use Rattle.member_frames.specs.declared.api.MemberApi.{MemberApi}
use Rattle.member_frames.specs.declared.api.MemberApi.TheVariants.{JoinGroup0, JoinGroup2, SyncGroup0, SyncGroup1, Heartbeat0, Heartbeat1, LeaveGroup0, LeaveGroup1}
use Rattle.member_frames.specs.MemberApis.{member_key, member_version}
use Rattle.member_frames.specs.MemberRequests.{MemberRequestValue, IsMemberRequest}

-- a request of the broker's own, which is read in one version
abbrev pub in_one : Api → VersionRange
in_one api = record { key = api_key api; least = api_version api; greatest = api_version api }

-- a request of members, from its least version to its greatest
abbrev pub from_to : (least greatest : MemberApi) → VersionRange
from_to least greatest =
    record { key = member_key least; least = member_version least; greatest = member_version greatest }

-- by rising key
abbrev pub told_ranges : List VersionRange
told_ranges =
    in_one Produce ∷ in_one Fetch ∷ in_one ListOffsets ∷ in_one Metadata ∷ in_one OffsetCommit ∷ in_one OffsetFetch
    ∷ in_one FindCoordinator ∷ from_to JoinGroup0 JoinGroup2 ∷ from_to Heartbeat0 Heartbeat1
    ∷ from_to LeaveGroup0 LeaveGroup1 ∷ from_to SyncGroup0 SyncGroup1 ∷ in_one ApiVersions ∷ in_one InitProducerId ∷ []

-- the list has the key, with the version in its range
abbrev pub tells : List VersionRange → (key version : ℤ) → Bool
tells ranges key version =
    list_any (λ r. int_eq r.key key && (int_le r.least version && int_le version r.greatest)) ranges

-- each key is greater than the one before it
abbrev pub RisesByKey : List VersionRange → Type 0
RisesByKey [] = ⊤
RisesByKey (r ∷ []) = ⊤
RisesByKey (r ∷ s ∷ ranges) = (r.key <ℤ s.key) × RisesByKey (s ∷ ranges)

-- One of the two readers reads the frame by its key and version.
abbrev pub IsReadByOne : List ℕ → Type 0
IsReadByOne frame = ((q : RequestValue) × IsReadRequest frame q) ⊎ ((q : MemberRequestValue) × IsMemberRequest frame q)

-- there is a frame of this key and version that is read
abbrev pub HasReadFrame : (key version : ℤ) → Type 0
HasReadFrame key version =
    (frame : List ℕ) × IsBytes frame × (key_of frame ≡ key) × (version_of frame ≡ version) × IsReadByOne frame
