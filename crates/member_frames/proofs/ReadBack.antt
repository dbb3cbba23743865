-- Responses to members are read as what they say: all lengths fit.
use Rattle.std.proofs.Common.{◌≡◌, ℕ, ◌+◌, ◌≤◌, ℤ, pos, Bool, true, false, List, [], ◌∷◌, ◌++◌, length, Ok, refl, sym, ap, ◌∙◌, append-nil, arith}
use Rattle.std.specs.Prelude.{FitsSigned, map}
use Rattle.std.specs.Int.{w16, w32}
use Rattle.std.specs.List.{sum_by, flat_map, AllByRecursion}
use Rattle.std.proofs.lemmas.List.{length-append, length-map}
use Rattle.std.proofs.lemmas.List.Sums.{sum_by-cons}
use Rattle.std.proofs.lemmas.List.Concat.{flat_map-cons}
use Rattle.responses.specs.declared.parts.TheConstants.{MAX_STRING_BYTES, MAX_BODY_BYTES}
use Rattle.frame_fields.specs.Fields.{size32, Fields, Value, be, field, Fits, encoded}
use Rattle.frame_fields.specs.Types.{int32, string, bytes, ◌⨾◌}
use Rattle.frame_fields.specs.Reading.{read_fields}
use Rattle.frame_fields.proofs.FieldLaws.{encodes_read}
use Rattle.frame_fields.specs.Frames.{framed}
use Rattle.responses.specs.Responses.{response}
use Rattle.member_frames.specs.declared.replies.TheConstants.{MAX_REPLY_BYTES}
use Rattle.member_frames.specs.declared.api.MemberApi.{MemberApi}
use Rattle.member_frames.specs.MemberApis.{is_throttled}
use Rattle.member_frames.specs.MemberReplies.{with_throttle, unthrottled, throttle_bytes, response_fields, response_value, member_response, JoinedHeadValue, JoinedMemberValue, JoinedValue, GivenValue, joined_member_fields, joined_member_value, join_group_response, join_group_value, joined_head_bytes, joined_member_bytes, sync_group_response, sync_group_value, code_response, code_value, joined_member_size, IsBoundedJoin, IsBoundedSync, ReadsBack}
use Rattle.member_frames.proofs.ReplyParts.{throttled_is, join_parts}

-- ---- any response

throttled_fits : (throttled : Bool) (d : Fields) (v : Value d) → Fits d v → Fits (with_throttle throttled d) (unthrottled throttled d v)
unfolding Fits
throttled_fits true d v fits = (record { sfits = omega arith }, fits)
throttled_fits false d v fits = fits

time_length : (throttled : Bool) → length (throttle_bytes throttled) ≤ 4
unfolding encoded
time_length true = omega arith
time_length false = omega arith

throttled_length : (throttled : Bool) (d : Fields) (v : Value d) → length (encoded (with_throttle throttled d) (unthrottled throttled d v)) ≤ 4 + length (encoded d v)
throttled_length throttled d v =
    let parts : length (encoded (with_throttle throttled d) (unthrottled throttled d v)) ≡ length (throttle_bytes throttled ++ encoded d v) = ap length (throttled_is throttled d v) in
    omega (arith, parts, length-append (throttle_bytes throttled) (encoded d v), time_length throttled)

-- a size, a correlation id and fields
read_whole : (correlation : ℤ) (d : Fields) (v : Value d) → FitsSigned w32 correlation → Fits d v → 4 + length (encoded d v) ≤ MAX_BODY_BYTES
    → read_fields (int32 ⨾ int32 ⨾ d) (response correlation d v) ≡ Ok ((pos (4 + length (encoded d v)), (correlation, v)), [])
unfolding encoded Fits
read_whole correlation d v number fits small =
    let size : length (be size32 correlation ++ encoded d v) ≡ 4 + length (encoded d v) = omega arith in
    encodes_read (int32 ⨾ int32 ⨾ d) (pos (4 + length (encoded d v)), (correlation, v)) (response correlation d v) []
    (record {
      fits = (record { sfits = omega (arith, small) }, (number, fits));
      parts = ap (λ (n : ℕ). be size32 (pos n) ++ (be size32 correlation ++ encoded d v)) size ∙ sym (append-nil (be size32 (pos (4 + length (encoded d v))) ++ (be size32 correlation ++ encoded d v)));
    })

reads_back : (api : MemberApi) (correlation : ℤ) (d : Fields) (v : Value d) → FitsSigned w32 correlation → Fits d v → 8 + length (encoded d v) ≤ MAX_BODY_BYTES → ReadsBack api correlation d v
reads_back api correlation d v number fits small =
    read_whole correlation (response_fields api d) (response_value api d v) number (throttled_fits (is_throttled api) d v fits)
    (omega (arith, throttled_length (is_throttled api) d v, small))

-- ---- JoinGroup

count_small : (ms : List JoinedMemberValue) → length ms ≤ sum_by joined_member_size ms
count_small [] = omega arith
count_small (m ∷ ms) = omega (arith, sum_by-cons joined_member_size m ms, count_small ms)

members_fit : (ms : List JoinedMemberValue) → AllByRecursion (λ m. length m.id ≤ MAX_STRING_BYTES) ms → sum_by joined_member_size ms ≤ MAX_REPLY_BYTES
    → AllByRecursion (Fits joined_member_fields) (map joined_member_value ms)
unfolding Fits
members_fit [] short small = tt
members_fit (m ∷ ms) short small =
    let all = sum_by-cons joined_member_size m ms in
    ((record { sfits = omega (arith, short.0) }, (record { sfits = omega (arith, all, small) }, tt)), members_fit ms short.1 (omega (arith, all, small)))

join_fits : (r : JoinedValue) → IsBoundedJoin r → Fits join_group_response (join_group_value r)
unfolding Fits
join_fits r is =
    let h = is.head in
    let count : length (map joined_member_value r.members) ≡ length r.members = length-map r.members joined_member_value in (
      h.code,
      (
        h.generation,
        (
          record { sfits = omega (arith, h.protocol) },
          (
            record { sfits = omega (arith, h.leader) },
            (
              record { sfits = omega (arith, h.member) },
              ((record { sfits = omega (arith, count, count_small r.members, is.all) }, members_fit r.members is.ids is.all), tt),
            ),
          ),
        ),
      ),
    )

abbrev behind_leader : (member : List ℕ) (count : ℕ) → List ℕ
behind_leader member count = field string member ++ be size32 (pos count)

abbrev behind_protocol : (leader member : List ℕ) (count : ℕ) → List ℕ
behind_protocol leader member count = field string leader ++ behind_leader member count

head_length : (h : JoinedHeadValue) (count : ℕ) → length (joined_head_bytes h count) ≡ 16 + (length h.protocol + (length h.leader + length h.member))
unfolding encoded
head_length h count =
    omega (arith, length-append h.protocol (behind_protocol h.leader h.member count), length-append h.leader (behind_leader h.member count), length-append h.member (be size32 (pos count)))

member_length : (m : JoinedMemberValue) → length (joined_member_bytes m) ≡ joined_member_size m
unfolding encoded
member_length m = omega (arith, length-append m.id (field bytes m.metadata ++ []), length-append m.metadata [])

members_length : (ms : List JoinedMemberValue) → length (flat_map joined_member_bytes ms) ≡ sum_by joined_member_size ms
members_length [] = refl
members_length (m ∷ ms) =
    let first : length (flat_map joined_member_bytes (m ∷ ms)) ≡ length (joined_member_bytes m ++ flat_map joined_member_bytes ms) = ap length (flat_map-cons joined_member_bytes m ms) in
    omega (arith, first, length-append (joined_member_bytes m) (flat_map joined_member_bytes ms), member_length m, members_length ms, sum_by-cons joined_member_size m ms)

join_small : (r : JoinedValue) → IsBoundedJoin r → 8 + length (encoded join_group_response (join_group_value r)) ≤ MAX_BODY_BYTES
join_small r is =
    let h = is.head in
    let front = joined_head_bytes r.head (length r.members) in
    let more = flat_map joined_member_bytes r.members in
    let parts : length (encoded join_group_response (join_group_value r)) ≡ length (front ++ more) = ap length (join_parts r) in
    omega (arith, parts, length-append front more, head_length r.head (length r.members), members_length r.members, h.protocol, h.leader, h.member, is.all)

pub join_reads_back : (api : MemberApi) (correlation : ℤ) (r : JoinedValue) → FitsSigned w32 correlation → IsBoundedJoin r → ReadsBack api correlation join_group_response (join_group_value r)
join_reads_back api correlation r number is =
    reads_back api correlation join_group_response (join_group_value r) number (join_fits r is) (join_small r is)

-- ---- SyncGroup, Heartbeat and LeaveGroup

sync_fits : (r : GivenValue) → IsBoundedSync r → Fits sync_group_response (sync_group_value r)
unfolding Fits
sync_fits r is = (is.code, (record { sfits = omega (arith, is.part) }, tt))

sync_small : (r : GivenValue) → IsBoundedSync r → 8 + length (encoded sync_group_response (sync_group_value r)) ≤ MAX_BODY_BYTES
unfolding encoded
sync_small r is = omega (arith, length-append r.part [], is.part)

pub sync_reads_back : (api : MemberApi) (correlation : ℤ) (r : GivenValue) → FitsSigned w32 correlation → IsBoundedSync r → ReadsBack api correlation sync_group_response (sync_group_value r)
sync_reads_back api correlation r number is =
    reads_back api correlation sync_group_response (sync_group_value r) number (sync_fits r is) (sync_small r is)

code_fits : (code : ℤ) → FitsSigned w16 code → Fits code_response (code_value code)
unfolding Fits
code_fits code fits = (fits, tt)

code_small : (code : ℤ) → 8 + length (encoded code_response (code_value code)) ≤ MAX_BODY_BYTES
unfolding encoded
code_small code = omega arith

pub code_reads_back : (api : MemberApi) (correlation code : ℤ) → FitsSigned w32 correlation → FitsSigned w16 code → ReadsBack api correlation code_response (code_value code)
code_reads_back api correlation code number fits =
    reads_back api correlation code_response (code_value code) number (code_fits code fits) (code_small code)

-- ---- the values say what was replied

abbrev member_of : Value joined_member_fields → JoinedMemberValue
member_of v = record { id = v.0; metadata = v.1.0 }

abbrev joined_of : Value join_group_response → JoinedValue
joined_of v = record {
  head = record { code = v.0; generation = v.1.0; protocol = v.1.1.0; leader = v.1.1.1.0; member = v.1.1.1.1.0 };
  members = map member_of v.1.1.1.1.1.0;
}

members_again : (ms : List JoinedMemberValue) → map member_of (map joined_member_value ms) ≡ ms
members_again [] = refl
members_again (m ∷ ms) = λ i. m ∷ members_again ms i

joined_again : (r : JoinedValue) → joined_of (join_group_value r) ≡ r
joined_again r = λ i. record { head = r.head; members = members_again r.members i }

pub same_join : (r s : JoinedValue) → join_group_value r ≡ join_group_value s → r ≡ s
same_join r s same = sym (joined_again r) ∙ ap joined_of same ∙ joined_again s

abbrev given_of : Value sync_group_response → GivenValue
given_of v = record { code = v.0; part = v.1.0 }

pub same_sync : (r s : GivenValue) → sync_group_value r ≡ sync_group_value s → r ≡ s
same_sync r s same = ap given_of same

-- ---- the parts of a response to a JoinGroup, behind the throttle time

pub all_parts : (api : MemberApi) (r : JoinedValue)
    → encoded (response_fields api join_group_response) (response_value api join_group_response (join_group_value r))
    ≡ throttle_bytes (is_throttled api) ++ (joined_head_bytes r.head (length r.members) ++ flat_map joined_member_bytes r.members)
all_parts api r =
    throttled_is (is_throttled api) join_group_response (join_group_value r) ∙ ap (λ (x : List ℕ). throttle_bytes (is_throttled api) ++ x) (join_parts r)

-- the correlation id and whether there is a throttle time were passed on by value
pub join_replied : (api : MemberApi) (r : JoinedValue) (correlation sent : ℤ) (throttled : Bool) (old new : List ℕ) → sent ≡ correlation → throttled ≡ is_throttled api
    → new ≡ old ++ framed (be size32 sent ++ (throttle_bytes throttled ++ (joined_head_bytes r.head (length r.members) ++ flat_map joined_member_bytes r.members)))
    → new ≡ old ++ member_response api correlation join_group_response (join_group_value r)
join_replied api r correlation sent throttled old new same time is =
    is
    ∙ (λ i. old ++ framed (be size32 (same i) ++ (throttle_bytes (time i) ++ (joined_head_bytes r.head (length r.members) ++ flat_map joined_member_bytes r.members))))
    ∙ ap (λ (x : List ℕ). old ++ framed (be size32 correlation ++ x)) (sym (all_parts api r))
