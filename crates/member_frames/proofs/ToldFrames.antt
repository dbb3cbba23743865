-- A client is told of a key and a version exactly where a frame of these is read: each row's versions have a frame, which is made
-- here of empty fields, and the key and the version of a frame that is read stand in a row.
use Rattle.std.proofs.Common.{◌≡◌, ◌⊎◌, inl, inr, ℕ, zero, suc, ℤ, pos, negsuc, Bool, true, false, List, [], ◌∷◌, ◌++◌, None, refl, sym, subst, ◌∙◌, append-nil, arith}
use Rattle.std.specs.Prelude.{◌<ℤ◌, ◌≤ℤ◌, ◌↔◌, ◌&&◌, ◌||◌, int_le, nat_lt, FitsSigned}
use Rattle.std.specs.List.{list_all}
use Rattle.std.specs.Ordering.{int_eq}
use Rattle.std.proofs.lemmas.Int.{ints}
use Rattle.frame_fields.specs.Fields.{Size, size8, size16, size32, size64, width, Field, number, sized, sized_or_null, Fields, end, one, array, array_or_null, FieldValue, Value, be, Fits, FieldFits, encoded, Encodes}
use Rattle.frame_fields.specs.Frames.{IsBytes}
use Rattle.request_frames.specs.declared.api.Api.{Api}
use Rattle.request_frames.specs.declared.api.Api.TheVariants.{Produce, Fetch, ListOffsets, Metadata, OffsetCommit, OffsetFetch, FindCoordinator, ApiVersions, InitProducerId, Deliver, Clean, CleanPart, Export, ExportDelta, Import, ImportDelta, Get, Cover, ForgetGroup, Trim}
use Rattle.request_frames.specs.Apis.{api_key, api_version, first_own_key}
use Rattle.request_frames.specs.Requests.{body_fields, key_of, version_of, body_of}
use Rattle.member_frames.specs.declared.api.MemberApi.{MemberApi}
use Rattle.member_frames.specs.declared.api.MemberApi.TheVariants.{JoinGroup0, JoinGroup1, JoinGroup2, SyncGroup0, SyncGroup1, Heartbeat0, Heartbeat1, LeaveGroup0, LeaveGroup1}
use Rattle.member_frames.specs.MemberApis.{member_key, member_version}
use Rattle.member_frames.specs.MemberRequests.{member_body_fields}
use Rattle.member_frames.specs.ToldRequests.{told_ranges, tells, RisesByKey, IsReadByOne, HasReadFrame}

-- ---- empty fields

abbrev empty_field : (f : Field) → FieldValue f
empty_field (number s) = pos 0
empty_field (sized s) = []
empty_field (sized_or_null s) = None

abbrev empty_value : (d : Fields) → Value d
empty_value end = tt
empty_value (one f d) = (empty_field f, empty_value d)
empty_value (array x d) = ([], empty_value d)
empty_value (array_or_null x d) = (None, empty_value d)

zero_fits : (s : Size) → FitsSigned (width s) (pos 0)
zero_fits size8 = record { sfits = omega arith }
zero_fits size16 = record { sfits = omega arith }
zero_fits size32 = record { sfits = omega arith }
zero_fits size64 = record { sfits = omega arith }

empty_field_fits : (f : Field) → FieldFits f (empty_field f)
empty_field_fits (number s) = zero_fits s
empty_field_fits (sized s) = zero_fits s
empty_field_fits (sized_or_null s) = tt

empty_fits : (d : Fields) → Fits d (empty_value d)
unfolding Fits
empty_fits end = tt
empty_fits (one f d) = (empty_field_fits f, empty_fits d)
empty_fits (array x d) = ((zero_fits size32, tt), empty_fits d)
empty_fits (array_or_null x d) = (tt, empty_fits d)

-- ---- a frame of empty fields

abbrev frame_of : (key version : ℤ) → Fields → List ℕ
frame_of key version d = be size16 key ++ (be size16 version ++ (be size32 (pos 0) ++ encoded d (empty_value d)))

abbrev is_byte : ℕ → Bool
is_byte b = nat_lt b 256

bytes_if : (bs : List ℕ) → list_all is_byte bs ≡ true → IsBytes bs
bytes_if [] all i = omega arith
bytes_if (b ∷ bs) all zero = grind (arith, all)
bytes_if (b ∷ bs) all (suc i) = bytes_if bs (rest (is_byte b) (list_all is_byte bs) all) i
  where
    rest : (p q : Bool) → p && q ≡ true → q ≡ true
    rest true q is = is
    rest false q is = absurd cc

fields_there : (key version : ℤ) (d : Fields) → body_of (frame_of key version d) ≡ encoded d (empty_value d) ++ []
fields_there key version d = sym (append-nil (encoded d (empty_value d)))

empty_encodes : (key version : ℤ) (d : Fields) → Encodes d (empty_value d) (body_of (frame_of key version d)) []
empty_encodes key version d = record { fits = empty_fits d; parts = fields_there key version d }

abbrev broker_frame : Api → List ℕ
broker_frame api = frame_of (api_key api) (api_version api) (body_fields api)

abbrev member_frame : MemberApi → List ℕ
member_frame api = frame_of (member_key api) (member_version api) (member_body_fields api)

-- its key, its version and its bytes are those of a row: closed facts, which each row computes
module _ (api : Api) (key_is : key_of (broker_frame api) ≡ api_key api) (version_is : version_of (broker_frame api) ≡ api_version api) (all : list_all is_byte (broker_frame api) ≡ true) where
  broker_read : HasReadFrame (api_key api) (api_version api)
  broker_read = (
    broker_frame api,
    bytes_if (broker_frame api) all,
    key_is,
    version_is,
    inl
        (_, (api, record { has_header = omega arith; has_api = (key_is, version_is) }, empty_value (body_fields api), empty_encodes (api_key api) (api_version api) (body_fields api), refl)),
  )

module _ (api : MemberApi) (key_is : key_of (member_frame api) ≡ member_key api) (version_is : version_of (member_frame api) ≡ member_version api) (all : list_all is_byte (member_frame api) ≡ true) where
  member_read : HasReadFrame (member_key api) (member_version api)
  member_read = (
    member_frame api,
    bytes_if (member_frame api) all,
    key_is,
    version_is,
    inr
        (_, (api, record { has_header = omega arith; has_api = (key_is, version_is) }, empty_value (member_body_fields api), empty_encodes (member_key api) (member_version api) (member_body_fields api), refl)),
  )

-- ---- from a row to a frame

abbrev IsToldOf : (key version : ℤ) → Type 0
IsToldOf key version = HasReadFrame key version × (key <ℤ first_own_key)

at_row : (k v key version : ℤ) → HasReadFrame k v → k <ℤ first_own_key → key ≡ k → version ≡ v → IsToldOf key version
at_row k v key version has low of_key of_version =
    subst (λ (z : ℤ). IsToldOf z version) (sym of_key) (subst (λ (z : ℤ). IsToldOf k z) (sym of_version) (has, low))

abbrev IsInRow : (k least greatest key version : ℤ) → Type 0
IsInRow k least greatest key version = (key ≡ k) × (least ≤ℤ version) × (version ≤ℤ greatest)

-- a row, or a later one
row : (k least greatest key version : ℤ) (others : Bool) → (int_eq k key && (int_le least version && int_le version greatest)) || others ≡ true → IsInRow k least greatest key version ⊎ (others ≡ true)
row k least greatest key version true e = inr refl
row k least greatest key version false e = inl (grind (arith, ints, e), grind (arith, ints, e), grind (arith, ints, e))

one_version : (v z : ℤ) → v ≤ℤ z → z ≤ℤ v → z ≡ v
one_version v z low high = omega (arith, ints, low, high)

two_versions : (z : ℤ) → pos 0 ≤ℤ z → z ≤ℤ pos 1 → (z ≡ pos 0) ⊎ (z ≡ pos 1)
two_versions (pos zero) low high = inl refl
two_versions (pos (suc zero)) low high = inr refl
two_versions (pos (suc (suc n))) low high = absurd (omega (arith, ints, high))
two_versions (negsuc n) low high = absurd (omega (arith, ints, low))

three_versions : (z : ℤ) → pos 0 ≤ℤ z → z ≤ℤ pos 2 → (z ≡ pos 0) ⊎ ((z ≡ pos 1) ⊎ (z ≡ pos 2))
three_versions (pos zero) low high = inl refl
three_versions (pos (suc zero)) low high = inr (inl refl)
three_versions (pos (suc (suc zero))) low high = inr (inr refl)
three_versions (pos (suc (suc (suc n)))) low high = absurd (omega (arith, ints, high))
three_versions (negsuc n) low high = absurd (omega (arith, ints, low))

of_one : (k v key version : ℤ) → HasReadFrame k v → k <ℤ first_own_key → IsInRow k v v key version → IsToldOf key version
of_one k v key version has low is = at_row k v key version has low is.0 (one_version v version is.1 is.2)

of_two : (k key version : ℤ) → HasReadFrame k (pos 0) → HasReadFrame k (pos 1) → k <ℤ first_own_key → IsInRow k (pos 0) (pos 1) key version → IsToldOf key version
of_two k key version first second low is =
    elim (two_versions version is.1 is.2) [
      | inl v ↦ at_row k (pos 0) key version first low is.0 v
      | inr v ↦ at_row k (pos 1) key version second low is.0 v
    ]

of_three : (k key version : ℤ) → HasReadFrame k (pos 0) → HasReadFrame k (pos 1) → HasReadFrame k (pos 2) → k <ℤ first_own_key → IsInRow k (pos 0) (pos 2) key version → IsToldOf key version
of_three k key version first second third low is = by (three_versions version is.1 is.2)
  where
    by : (version ≡ pos 0) ⊎ ((version ≡ pos 1) ⊎ (version ≡ pos 2)) → IsToldOf key version
    by (inl v) = at_row k (pos 0) key version first low is.0 v
    by (inr (inl v)) = at_row k (pos 1) key version second low is.0 v
    by (inr (inr v)) = at_row k (pos 2) key version third low is.0 v

-- the row, or else what later rows give
first_row : (k least greatest key version : ℤ) (others : Bool) → (IsInRow k least greatest key version → IsToldOf key version) → (others ≡ true → IsToldOf key version)
    → (int_eq k key && (int_le least version && int_le version greatest)) || others ≡ true → IsToldOf key version
first_row k least greatest key version others here later e =
    elim (row k least greatest key version others e) [
      | inl is ↦ here is
      | inr rest ↦ later rest
    ]

none_left : (key version : ℤ) → false ≡ true → IsToldOf key version
none_left key version e = absurd cc

found : (key version : ℤ) → tells told_ranges key version ≡ true → IsToldOf key version
unfolding encoded
found key version =
    first_row (pos 0) (pos 3) (pos 3) key version _ (of_one (pos 0) (pos 3) key version (broker_read Produce refl refl refl) (omega arith))
    (first_row (pos 1) (pos 4) (pos 4) key version _ (of_one (pos 1) (pos 4) key version (broker_read Fetch refl refl refl) (omega arith))
    (first_row (pos 2) (pos 1) (pos 1) key version _ (of_one (pos 2) (pos 1) key version (broker_read ListOffsets refl refl refl) (omega arith))
    (first_row (pos 3) (pos 1) (pos 1) key version _ (of_one (pos 3) (pos 1) key version (broker_read Metadata refl refl refl) (omega arith))
    (first_row (pos 8) (pos 2) (pos 2) key version _ (of_one (pos 8) (pos 2) key version (broker_read OffsetCommit refl refl refl) (omega arith))
    (first_row (pos 9) (pos 1) (pos 1) key version _ (of_one (pos 9) (pos 1) key version (broker_read OffsetFetch refl refl refl) (omega arith))
    (first_row (pos 10) (pos 0) (pos 0) key version _ (of_one (pos 10) (pos 0) key version (broker_read FindCoordinator refl refl refl) (omega arith))
    (first_row (pos 11) (pos 0) (pos 2) key version _ (of_three (pos 11) key version (member_read JoinGroup0 refl refl refl) (member_read JoinGroup1 refl refl refl) (member_read JoinGroup2 refl refl refl) (omega arith))
    (first_row (pos 12) (pos 0) (pos 1) key version _ (of_two (pos 12) key version (member_read Heartbeat0 refl refl refl) (member_read Heartbeat1 refl refl refl) (omega arith))
    (first_row (pos 13) (pos 0) (pos 1) key version _ (of_two (pos 13) key version (member_read LeaveGroup0 refl refl refl) (member_read LeaveGroup1 refl refl refl) (omega arith))
    (first_row (pos 14) (pos 0) (pos 1) key version _ (of_two (pos 14) key version (member_read SyncGroup0 refl refl refl) (member_read SyncGroup1 refl refl refl) (omega arith))
    (first_row (pos 18) (pos 0) (pos 0) key version _ (of_one (pos 18) (pos 0) key version (broker_read ApiVersions refl refl refl) (omega arith))
    (first_row (pos 22) (pos 0) (pos 0) key version _ (of_one (pos 22) (pos 0) key version (broker_read InitProducerId refl refl refl) (omega arith))
    (none_left key version)))))))))))))

-- ---- from a frame to its row

told_member : (api : MemberApi) → tells told_ranges (member_key api) (member_version api) ≡ true
told_member JoinGroup0 = refl
told_member JoinGroup1 = refl
told_member JoinGroup2 = refl
told_member SyncGroup0 = refl
told_member SyncGroup1 = refl
told_member Heartbeat0 = refl
told_member Heartbeat1 = refl
told_member LeaveGroup0 = refl
told_member LeaveGroup1 = refl

told_broker : (api : Api) → api_key api <ℤ first_own_key → tells told_ranges (api_key api) (api_version api) ≡ true
told_broker Produce low = refl
told_broker Fetch low = refl
told_broker ListOffsets low = refl
told_broker Metadata low = refl
told_broker OffsetCommit low = refl
told_broker OffsetFetch low = refl
told_broker FindCoordinator low = refl
told_broker ApiVersions low = refl
told_broker InitProducerId low = refl
told_broker Deliver low = absurd (omega (arith, ints, low))
told_broker Clean low = absurd (omega (arith, ints, low))
told_broker CleanPart low = absurd (omega (arith, ints, low))
told_broker Export low = absurd (omega (arith, ints, low))
told_broker ExportDelta low = absurd (omega (arith, ints, low))
told_broker Import low = absurd (omega (arith, ints, low))
told_broker ImportDelta low = absurd (omega (arith, ints, low))
told_broker Get low = absurd (omega (arith, ints, low))
told_broker Cover low = absurd (omega (arith, ints, low))
told_broker ForgetGroup low = absurd (omega (arith, ints, low))
told_broker Trim low = absurd (omega (arith, ints, low))

read_told : (frame : List ℕ) (key version : ℤ) → key_of frame ≡ key → version_of frame ≡ version → IsReadByOne frame → key <ℤ first_own_key → tells told_ranges key version ≡ true
read_told frame key version of_key of_version (inl (q, (api, is, v, e, same))) low =
    let key_is : key ≡ api_key api = sym of_key ∙ is.has_api.0 in
    let version_is : version ≡ api_version api = sym of_version ∙ is.has_api.1 in
    (λ i. tells told_ranges (key_is i) (version_is i)) ∙ told_broker api (subst (λ (k : ℤ). k <ℤ first_own_key) key_is low)
read_told frame key version of_key of_version (inr (q, (api, is, v, e, same))) low =
    let key_is : key ≡ member_key api = sym of_key ∙ is.has_api.0 in
    let version_is : version ≡ member_version api = sym of_version ∙ is.has_api.1 in
    (λ i. tells told_ranges (key_is i) (version_is i)) ∙ told_member api

pub told_are_read : (key version : ℤ) → (tells told_ranges key version ≡ true) ↔ (HasReadFrame key version × (key <ℤ first_own_key))
told_are_read key version = (
  found key version,
  λ is. read_told is.0.0 key version is.0.2 is.0.3 is.0.4 is.1,
)

pub list_rises : RisesByKey told_ranges
list_rises = (omega arith, (omega arith, (omega arith, (omega arith, (omega arith, (omega arith, (omega arith, (omega arith, (omega arith, (omega arith, (omega arith, (omega arith, tt))))))))))))
