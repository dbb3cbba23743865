-- A frame is one request of a member, or has one refusal.
use Rattle.std.proofs.Common.{◌≡◌, ℕ, ◌<◌, ◌≤◌, Bool, cond, ltb, List, [], ◌∷◌, length, Result, Ok, Err, refl, ap, sym, ◌∙◌, arith}
use Rattle.std.proofs.lemmas.Bool.{le-ltb, lt-ltb}
use Rattle.member_frames.specs.declared.api.MemberApi.{MemberApi}
use Rattle.frame_fields.specs.declared.error.FieldFault.{FieldFault}
use Rattle.frame_fields.specs.declared.error.FieldFault.TheVariants as field
use Rattle.frame_fields.specs.declared.error.FrameError.{FrameError}
use Rattle.frame_fields.specs.declared.error.FrameError.TheVariants as frame
use Rattle.frame_fields.specs.Fields.{Value}
use Rattle.frame_fields.specs.Types.{or_empty}
use Rattle.frame_fields.specs.Reading.{At, read_fields}
use Rattle.request_frames.specs.Requests.{body_of, key_of, version_of, correlation_of}
use Rattle.member_frames.specs.MemberApis.{IsNoMemberApi}
use Rattle.member_frames.specs.MemberRequests.{MemberRequestValue, member_body_fields, member_body_value, IsOfMember, IsMemberRequest, HasMemberFault, IsMemberRefused}
use Rattle.member_frames.proofs.MemberTable.{find_member, found_member, no_member}
use Rattle.frame_fields.proofs.FieldLaws.{encodes_read, breaks_read}

-- ---- the outcome as a function

abbrev of_field : FieldFault → FrameError
of_field field.ShortBody = frame.ShortBody
of_field field.Malformed = frame.Malformed

abbrev whole : (api : MemberApi) → List ℕ → List ℕ → Value (member_body_fields api) → Result MemberRequestValue FrameError
whole api bytes [] v = Ok (record { api = api; correlation = correlation_of bytes; client = or_empty v.0; body = member_body_value api v.1 })
whole api bytes (b ∷ rest) v = Err frame.TrailingBytes

abbrev from_body : (api : MemberApi) → List ℕ → At (Value (member_body_fields api)) → Result MemberRequestValue FrameError
from_body api bytes (Ok x) = whole api bytes x.1 x.0
from_body api bytes (Err e) = Err (of_field e)

abbrev from_api : List ℕ → Result MemberApi FrameError → Result MemberRequestValue FrameError
from_api bytes (Ok api) = from_body api bytes (read_fields (member_body_fields api) (body_of bytes))
from_api bytes (Err e) = Err e

abbrev by_table : List ℕ → Result MemberRequestValue FrameError
by_table bytes = from_api bytes (find_member (key_of bytes) (version_of bytes))

abbrev outcome : List ℕ → Result MemberRequestValue FrameError
outcome bytes = cond (ltb (length bytes) 8) (Err frame.ShortHeader) (by_table bytes)

-- ---- each outcome is the function's

-- a frame of at least eight bytes
behind_header : (bytes : List ℕ) → 8 ≤ length bytes → outcome bytes ≡ by_table bytes
behind_header bytes has = ap (λ (b : Bool). cond b (Err frame.ShortHeader) (by_table bytes)) (le-ltb _ _ has)

of_api : (api : MemberApi) (bytes : List ℕ) → IsOfMember api bytes → outcome bytes ≡ from_body api bytes (read_fields (member_body_fields api) (body_of bytes))
of_api api bytes is =
    behind_header bytes is.has_header
    ∙ ap (from_api bytes) (found_member (key_of bytes) (version_of bytes) api is.has_api)

pub request_outcome : (bytes : List ℕ) (q : MemberRequestValue) → IsMemberRequest bytes q → outcome bytes ≡ Ok q
request_outcome bytes q (api, is, v, e, same) =
    of_api api bytes is ∙ ap (from_body api bytes) (encodes_read (member_body_fields api) v (body_of bytes) [] e) ∙ ap Ok (sym same)

fault_outcome : (e : FieldFault) (bytes : List ℕ) → HasMemberFault e bytes → outcome bytes ≡ Err (of_field e)
fault_outcome e bytes (api, is, broken) =
    of_api api bytes is ∙ ap (from_body api bytes) (breaks_read (member_body_fields api) e (body_of bytes) broken)

left_over : (api : MemberApi) (bytes rest : List ℕ) (v : Value (member_body_fields api)) → 0 < length rest → whole api bytes rest v ≡ Err frame.TrailingBytes
left_over api bytes [] v some = absurd (omega arith)
left_over api bytes (b ∷ rest) v some = refl

unknown_outcome : (e : FrameError) (bytes : List ℕ) → 8 ≤ length bytes → IsNoMemberApi (key_of bytes) (version_of bytes) e → outcome bytes ≡ Err e
unknown_outcome e bytes has h =
    behind_header bytes has ∙ ap (from_api bytes) (no_member (key_of bytes) (version_of bytes) e h)

pub refusal_outcome : (e : FrameError) (bytes : List ℕ) → IsMemberRefused e bytes → outcome bytes ≡ Err e
refusal_outcome frame.NegativeSize bytes h = absurd h
refusal_outcome frame.TooLarge bytes h = absurd h
refusal_outcome frame.ShortHeader bytes h = ap (λ (b : Bool). cond b (Err frame.ShortHeader) (by_table bytes)) (lt-ltb _ _ h)
refusal_outcome frame.UnknownApi bytes h = unknown_outcome frame.UnknownApi bytes h.0 h.1
refusal_outcome frame.BadVersion bytes h = unknown_outcome frame.BadVersion bytes h.0 h.1
refusal_outcome frame.ShortBody bytes h = fault_outcome field.ShortBody bytes h
refusal_outcome frame.Malformed bytes h = fault_outcome field.Malformed bytes h
refusal_outcome frame.TrailingBytes bytes (api, is, v, rest, e, some) =
    of_api api bytes is ∙ ap (from_body api bytes) (encodes_read (member_body_fields api) v (body_of bytes) rest e) ∙ left_over api bytes rest v some
refusal_outcome frame.OutOfMemory bytes h = absurd h

-- ---- there is one

abbrev okay : MemberRequestValue → Result MemberRequestValue FrameError
okay q = Ok q

abbrev refused : FrameError → Result MemberRequestValue FrameError
refused e = Err e

same_okay : (q r : MemberRequestValue) → okay q ≡ okay r → q ≡ r
same_okay q r e = cc

same_refusal : (e d : FrameError) → refused e ≡ refused d → e ≡ d
same_refusal e d h = cc

okay_or_refused : (q : MemberRequestValue) (e : FrameError) → okay q ≡ refused e → ⊥
okay_or_refused q e h = absurd cc

pub one_request : (bytes : List ℕ) (q r : MemberRequestValue) → IsMemberRequest bytes q → IsMemberRequest bytes r → q ≡ r
one_request bytes q r a b = same_okay q r (sym (request_outcome bytes q a) ∙ request_outcome bytes r b)

pub one_refusal : (bytes : List ℕ) (e d : FrameError) → IsMemberRefused e bytes → IsMemberRefused d bytes → e ≡ d
one_refusal bytes e d a b = same_refusal e d (sym (refusal_outcome e bytes a) ∙ refusal_outcome d bytes b)

pub never_both : (bytes : List ℕ) (q : MemberRequestValue) (e : FrameError) → IsMemberRequest bytes q → IsMemberRefused e bytes → ⊥
never_both bytes q e a b = okay_or_refused q e (sym (request_outcome bytes q a) ∙ refusal_outcome e bytes b)
