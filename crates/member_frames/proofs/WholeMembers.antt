-- From what is read of a frame to what the frame is.
use Rattle.std.proofs.Common.{◌≡◌, ℕ, zero, suc, ◌<◌, ◌≤◌, Bool, true, false, ℤ, List, [], length, Option, Result, Ok, Err, refl, ap, sym, subst, ◌∙◌, arith, to_z, of_z}
use Rattle.std.specs.Prelude.{FitsSigned, ◌==◌}
use Rattle.std.specs.Int.{w16, w32, cast_signed, cast_unsigned}
use Rattle.std.proofs.lemmas.Bool.{eqb-true}
use Rattle.std.proofs.lemmas.Int.{to_z-of_z}
use Rattle.std.proofs.lemmas.List.{nil_from_length}
use Rattle.member_frames.specs.declared.api.MemberApi.{MemberApi}
use Rattle.member_frames.specs.declared.api.MemberApi.TheVariants.{JoinGroup0, JoinGroup1, JoinGroup2, SyncGroup0, SyncGroup1, Heartbeat0, Heartbeat1, LeaveGroup0, LeaveGroup1}
use Rattle.frame_fields.specs.declared.error.FieldFault.{FieldFault}
use Rattle.frame_fields.specs.declared.error.FrameError.{FrameError}
use Rattle.frame_fields.specs.declared.error.FrameError.TheVariants as frame
use Rattle.member_frames.specs.MemberApis.{IsMemberApi, IsNoMemberApi}
use Rattle.frame_fields.specs.Fields.{Value, Encodes}
use Rattle.frame_fields.specs.Types.{nullable_string, or_empty}
use Rattle.frame_fields.specs.Reading.{◌>>=◌, At, map_read, then_read, read_field, read_fields}
use Rattle.request_frames.specs.Requests.{body_of, key_of, version_of, correlation_of}
use Rattle.member_frames.specs.MemberRequests.{MemberBodyValue, MemberRequestValue, member_fields, member_body_fields, member_body_value, IsOfMember, IsMemberRequest, HasMemberFault, IsMemberRefused}
use Rattle.member_frames.specs.MemberBodies.{ClientAndBody, read_member_body, read_member_request}
use Rattle.frame_fields.proofs.Numbers.{IsBytes, IsBytes-drop}
use Rattle.frame_fields.proofs.ReaderLaws.{map_read_ok, map_read_err, map_read_twice}
use Rattle.frame_fields.proofs.FieldLaws.{read_encodes, read_breaks}

-- ---- reading as the code goes, and by descriptions

body_is : (api : MemberApi) (bytes : List ℕ) → read_member_body api bytes ≡ map_read (member_body_value api) (read_fields (member_fields api) bytes)
body_is JoinGroup0 bytes = map_read_twice _ _ (read_fields (member_fields JoinGroup0) bytes)
body_is JoinGroup1 bytes = map_read_twice _ _ (read_fields (member_fields JoinGroup1) bytes)
body_is JoinGroup2 bytes = map_read_twice _ _ (read_fields (member_fields JoinGroup2) bytes)
body_is SyncGroup0 bytes = map_read_twice _ _ (read_fields (member_fields SyncGroup0) bytes)
body_is SyncGroup1 bytes = map_read_twice _ _ (read_fields (member_fields SyncGroup1) bytes)
body_is Heartbeat0 bytes = map_read_twice _ _ (read_fields (member_fields Heartbeat0) bytes)
body_is Heartbeat1 bytes = map_read_twice _ _ (read_fields (member_fields Heartbeat1) bytes)
body_is LeaveGroup0 bytes = map_read_twice _ _ (read_fields (member_fields LeaveGroup0) bytes)
body_is LeaveGroup1 bytes = map_read_twice _ _ (read_fields (member_fields LeaveGroup1) bytes)

-- the client id and what is asked, of the fields' values
abbrev asked : (api : MemberApi) → Value (member_body_fields api) → ClientAndBody
asked api v = record { client = or_empty v.0; body = member_body_value api v.1 }

abbrev with_client : Option (List ℕ) → MemberBodyValue → ClientAndBody
with_client client body = record { client = or_empty client; body = body }

behind_client : (api : MemberApi) (r : At (Option (List ℕ))) → (r >>= λ client. map_read (with_client client.0) (read_member_body api client.1)) ≡ map_read (asked api) (then_read r (read_fields (member_fields api)))
behind_client api (Err e) = refl
behind_client api (Ok x) =
    let fields = read_fields (member_fields api) x.1 in
    ap (map_read (with_client x.0)) (body_is api x.1)
    ∙ map_read_twice (member_body_value api) (with_client x.0) fields
    ∙ sym (map_read_twice (λ y. (x.0, y)) (asked api) fields)

request_is : (api : MemberApi) (bytes : List ℕ) → read_member_request api bytes ≡ map_read (asked api) (read_fields (member_body_fields api) bytes)
unfolding read_member_request read_fields
request_is api bytes = behind_client api (read_field nullable_string bytes)

-- ---- what the frame is

abbrev faulty : {A : Type 0} → FieldFault → Result A FieldFault
faulty e = Err e

encodes_body : (api : MemberApi) (bytes : List ℕ) (found : ClientAndBody) (rest : List ℕ) → IsBytes bytes → read_member_request api bytes ≡ Ok (found, rest)
    → (v : Value (member_body_fields api)) × Encodes (member_body_fields api) v bytes rest × (found ≡ asked api v)
encodes_body api bytes found rest fits read =
    let w = map_read_ok (asked api) (read_fields (member_body_fields api) bytes) found rest (sym (request_is api bytes) ∙ read) in
    (w.0, read_encodes (member_body_fields api) w.0 bytes rest fits w.1, sym w.2)

-- the request of a client id and a body
abbrev pub request_of : MemberApi → (correlation : ℤ) → ClientAndBody → MemberRequestValue
request_of api correlation found = record { api = api; correlation = correlation; client = found.client; body = found.body }

module _ (api : MemberApi) (bytes : List ℕ) (fits : IsBytes bytes) (is : IsOfMember api bytes) (behind : List ℕ) (there : behind ≡ body_of bytes) where
  pub all_read : (found : ClientAndBody) (rest : List ℕ) → read_member_request api behind ≡ Ok (found, rest) → length rest ≡ 0
      → IsMemberRequest bytes (request_of api (correlation_of bytes) found)
  all_read found rest read no_more =
      let e = encodes_body api (body_of bytes) found rest (IsBytes-drop 8 bytes fits) (ap (read_member_request api) (sym there) ∙ read) in
      let nothing_left : rest ≡ [] = nil_from_length rest no_more in
      (api, is, e.0, subst (Encodes (member_body_fields api) e.0 (body_of bytes)) nothing_left e.1, λ i. request_of api (correlation_of bytes) (e.2 i))

  pub bytes_left : (found : ClientAndBody) (rest : List ℕ) → read_member_request api behind ≡ Ok (found, rest) → 0 < length rest → IsMemberRefused frame.TrailingBytes bytes
  bytes_left found rest read more =
      let e = encodes_body api (body_of bytes) found rest (IsBytes-drop 8 bytes fits) (ap (read_member_request api) (sym there) ∙ read) in
      (api, is, e.0, rest, e.1, more)

  pub fault_found : (e f : FieldFault) → e ≡ f → read_member_request api behind ≡ Err e → HasMemberFault f bytes
  fault_found e f same read =
      let fault : read_member_request api (body_of bytes) ≡ faulty f = ap (read_member_request api) (sym there) ∙ read ∙ ap faulty same in
      let broken = map_read_err (asked api) (read_fields (member_body_fields api) (body_of bytes)) f (sym (request_is api (body_of bytes)) ∙ fault) in
      (api, is, read_breaks (member_body_fields api) f (body_of bytes) (IsBytes-drop 8 bytes fits) broken)

-- a number that was passed on, and the correlation id of the frame
pub correlates : (bytes : List ℕ) (api : MemberApi) (z : ℤ) (found : ClientAndBody) → FitsSigned w32 z → z ≡ correlation_of bytes
    → IsMemberRequest bytes (request_of api (correlation_of bytes) found) → IsMemberRequest bytes (request_of api (cast_signed w32 (cast_unsigned w32 z)) found)
correlates bytes api z found fits e q = subst (λ (c : ℤ). IsMemberRequest bytes (request_of api c found)) (sym (to_z-of_z w32 z fits ∙ e)) q

pub empty_length : (b : Bool) (n : ℕ) → b ≡ (n == 0) → b ≡ true → n ≡ 0
empty_length b n e t = eqb-true n 0 (sym e ∙ t)

pub some_length : (b : Bool) (n : ℕ) → b ≡ (n == 0) → b ≡ false → 0 < n
some_length b zero e f = absurd cc
some_length b (suc n) e f = omega arith

-- ---- what the header says of the request, its two numbers passed on by value

module _ (bytes : List ℕ) (key version : ℤ) (key_fits : FitsSigned w16 key) (version_fits : FitsSigned w16 version) (long : 8 ≤ length bytes) (is_key : key ≡ key_of bytes) (is_version : version ≡ version_of bytes) where
  sent_key : to_z w16 (of_z w16 key) ≡ key_of bytes
  sent_key = to_z-of_z w16 key key_fits ∙ is_key

  sent_version : to_z w16 (of_z w16 version) ≡ version_of bytes
  sent_version = to_z-of_z w16 version version_fits ∙ is_version

  pub api_found : (api : MemberApi) → IsMemberApi (to_z w16 (of_z w16 key)) (to_z w16 (of_z w16 version)) api → IsOfMember api bytes
  api_found api found = record { has_header = long; has_api = (sym sent_key ∙ found.0, sym sent_version ∙ found.1) }

  no_api : (e : FrameError) → IsNoMemberApi (key_of bytes) (version_of bytes) e → IsMemberRefused e bytes
  no_api frame.UnknownApi none = (long, none)
  no_api frame.BadVersion none = (long, none)
  no_api frame.NegativeSize none = absurd none
  no_api frame.TooLarge none = absurd none
  no_api frame.ShortHeader none = absurd none
  no_api frame.ShortBody none = absurd none
  no_api frame.Malformed none = absurd none
  no_api frame.TrailingBytes none = absurd none
  no_api frame.OutOfMemory none = absurd none

  pub api_not_found : (e : FrameError) → IsNoMemberApi (to_z w16 (of_z w16 key)) (to_z w16 (of_z w16 version)) e → IsMemberRefused e bytes
  api_not_found e none =
      no_api e (subst (λ (v : ℤ). IsNoMemberApi (key_of bytes) v e) sent_version (subst (λ (k : ℤ). IsNoMemberApi k (to_z w16 (of_z w16 version)) e) sent_key none))
