-- The responses to the requests of members: their fields, the values that these take, and the parts in which they are
-- written. Kafka's documentation, "Protocol Guide", section "The Messages". What is always answered with the same number
-- stands here as that number.
use Rattle.std.specs.Prelude.{◌≡◌, Ok, ℕ, ℤ, pos, negsuc, ◌+◌, ◌≤◌, Bool, true, false, FitsSigned, List, [], map, length}
use Rattle.std.specs.Int.{w16, w32}
use Rattle.std.specs.List.{sum_by, AllByRecursion}
use Rattle.responses.specs.declared.parts.TheConstants.{MAX_STRING_BYTES}
use Rattle.member_frames.specs.declared.api.MemberApi.{MemberApi}
use Rattle.member_frames.specs.declared.replies.TheConstants.{MAX_REPLY_BYTES}
use Rattle.frame_fields.specs.Fields.{Fields, end, array, Value, encoded}
use Rattle.frame_fields.specs.Types.{int16, int32, string, bytes, ◌⨾◌}
use Rattle.frame_fields.specs.Reading.{read_fields}
use Rattle.responses.specs.Responses.{response}
use Rattle.member_frames.specs.MemberApis.{is_throttled}

-- ---- versions

-- the fields of a response, behind the throttle time where it has one
abbrev pub with_throttle : Bool → Fields → Fields
with_throttle true d = int32 ⨾ d
with_throttle false d = d

-- nothing is throttled
abbrev pub unthrottled : (throttled : Bool) (d : Fields) → Value d → Value (with_throttle throttled d)
unthrottled true d v = (pos 0, v)
unthrottled false d v = v

-- the fields of a response in this version, and their values
abbrev pub response_fields : MemberApi → Fields → Fields
response_fields api d = with_throttle (is_throttled api) d

abbrev pub response_value : (api : MemberApi) (d : Fields) → Value d → Value (response_fields api d)
response_value api d v = unthrottled (is_throttled api) d v

-- a response in this version, of these fields behind the throttle time
abbrev pub member_response : MemberApi → (correlation : ℤ) (d : Fields) → Value d → List ℕ
member_response api correlation d v = response correlation (response_fields api d) (response_value api d v)

-- before the fields: the throttle time, where there is one
abbrev pub throttle_bytes : (throttled : Bool) → List ℕ
throttle_bytes true = encoded (int32 ⨾ end) (pos 0, tt)
throttle_bytes false = []

-- ---- JoinGroup

-- a member: its id, its metadata
abbrev pub joined_member_fields : Fields
joined_member_fields = string ⨾ bytes ⨾ end

-- error code, generation, protocol, leader, member, members
abbrev pub join_group_response : Fields
join_group_response = int16 ⨾ int32 ⨾ string ⨾ string ⨾ string ⨾ array joined_member_fields end

pub record JoinedMemberValue : Type 0 where
  pub id : List ℕ
  pub metadata : List ℕ

-- what stands before the members: the code, the generation, its protocol, the id of its leader, and that of the member
pub record JoinedHeadValue : Type 0 where
  pub code : ℤ
  pub generation : ℤ
  pub protocol : List ℕ
  pub leader : List ℕ
  pub member : List ℕ

pub record JoinedValue : Type 0 where
  pub head : JoinedHeadValue
  pub members : List JoinedMemberValue

abbrev pub joined_member_value : JoinedMemberValue → Value joined_member_fields
joined_member_value m = (m.id, (m.metadata, tt))

abbrev pub join_group_value : JoinedValue → Value join_group_response
join_group_value r =
    (r.head.code, (r.head.generation, (r.head.protocol, (r.head.leader, (r.head.member, (map joined_member_value r.members, tt))))))

-- beside a code there is no generation, and all else is empty
abbrev pub refused_head : (code : ℤ) → JoinedHeadValue
refused_head code = record { code = code; generation = negsuc 0; protocol = []; leader = []; member = [] }

abbrev pub refused_join : (code : ℤ) → JoinedValue
refused_join code = record { head = refused_head code; members = [] }

-- before the members: what stands in front of them, and their count
abbrev pub joined_head_bytes : JoinedHeadValue → (count : ℕ) → List ℕ
joined_head_bytes h count = encoded (int16 ⨾ int32 ⨾ string ⨾ string ⨾ string ⨾ int32 ⨾ end)
    (h.code, (h.generation, (h.protocol, (h.leader, (h.member, (pos count, tt))))))

abbrev pub joined_member_bytes : JoinedMemberValue → List ℕ
joined_member_bytes m = encoded joined_member_fields (joined_member_value m)

-- ---- SyncGroup

-- error code, part
abbrev pub sync_group_response : Fields
sync_group_response = int16 ⨾ bytes ⨾ end

-- beside a code the part is empty
pub record GivenValue : Type 0 where
  pub code : ℤ
  pub part : List ℕ

abbrev pub sync_group_value : GivenValue → Value sync_group_response
sync_group_value r = (r.code, (r.part, tt))

-- before the part: the code, the number of the part's bytes
abbrev pub given_head_bytes : (code : ℤ) (size : ℕ) → List ℕ
given_head_bytes code size = encoded (int16 ⨾ int32 ⨾ end) (code, (pos size, tt))

-- ---- Heartbeat and LeaveGroup

-- error code
abbrev pub code_response : Fields
code_response = int16 ⨾ end

abbrev pub code_value : (code : ℤ) → Value code_response
code_value code = (code, tt)

-- ---- values whose responses can be read again

-- the bytes that a member takes
abbrev pub joined_member_size : JoinedMemberValue → ℕ
joined_member_size m = 6 + length m.id + length m.metadata

pub record HasShortTexts (h : JoinedHeadValue) : Type 0 where
  pub code : FitsSigned w16 h.code
  pub generation : FitsSigned w32 h.generation
  pub protocol : length h.protocol ≤ MAX_STRING_BYTES
  pub leader : length h.leader ≤ MAX_STRING_BYTES
  pub member : length h.member ≤ MAX_STRING_BYTES

pub record IsBoundedJoin (r : JoinedValue) : Type 0 where
  pub head : HasShortTexts r.head
  pub ids : AllByRecursion (λ m. length m.id ≤ MAX_STRING_BYTES) r.members
  pub all : sum_by joined_member_size r.members ≤ MAX_REPLY_BYTES

pub record IsBoundedSync (r : GivenValue) : Type 0 where
  pub code : FitsSigned w16 r.code
  pub part : length r.part ≤ MAX_REPLY_BYTES

-- ---- what a client reads

-- a response is read as its size, the correlation id and the values of its fields, and nothing is left
abbrev pub ReadsBack : MemberApi → (correlation : ℤ) (d : Fields) → Value d → Type 0
ReadsBack api correlation d v =
    read_fields (int32 ⨾ int32 ⨾ response_fields api d) (member_response api correlation d v)
    ≡ Ok ((pos (4 + length (encoded (response_fields api d) (response_value api d v))), (correlation, response_value api d v)), [])
