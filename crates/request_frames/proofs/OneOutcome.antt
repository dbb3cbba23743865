-- A frame is one request, or has one refusal.
use Rattle.std.proofs.Common.{◌≡◌, ◌≢◌, inl, inr, ℕ, ◌<◌, ◌≤◌, Bool, false, cond, ltb, ℤ, List, [], ◌∷◌, length, Option, None, Some, Result, Ok, Err, refl, ap, sym, ◌∙◌, arith}
use Rattle.std.proofs.lemmas.Bool.{le-ltb, lt-ltb}
use Rattle.std.proofs.lemmas.Int.{ints}
use Rattle.request_frames.specs.declared.api.Api.{Api}
use Rattle.request_frames.specs.declared.api.Api.TheVariants.{ApiVersions}
use Rattle.frame_fields.specs.declared.error.FieldFault.{FieldFault}
use Rattle.frame_fields.specs.declared.error.FieldFault.TheVariants as field
use Rattle.frame_fields.specs.declared.error.FrameError.{FrameError}
use Rattle.frame_fields.specs.declared.error.FrameError.TheVariants as frame
use Rattle.frame_fields.specs.Fields.{Value}
use Rattle.frame_fields.specs.Reading.{At, read_fields}
use Rattle.request_frames.specs.Apis.{api_key, api_version, is_unread, IsApi, IsNoApi}
use Rattle.request_frames.specs.Requests.{RequestValue, body_fields, body_value, body_of, key_of, version_of, correlation_of, IsOf, unread_request, IsRequest, HasFault, IsRefused}
use Rattle.request_frames.proofs.ApiTable.{api_of_key, in_version, key_finds, no_key, right_version, wrong_version}
use Rattle.frame_fields.proofs.FieldLaws.{encodes_read, breaks_read}

-- ---- the outcome as a function

abbrev of_known : ℤ → Option Api → Result Api FrameError
of_known version None = Err frame.UnknownApi
of_known version (Some old) = in_version version old

abbrev find_api : (key version : ℤ) → Result Api FrameError
find_api key version = of_known version (api_of_key key)

abbrev of_field : FieldFault → FrameError
of_field field.ShortBody = frame.ShortBody
of_field field.Malformed = frame.Malformed

abbrev whole : (api : Api) → List ℕ → List ℕ → Value (body_fields api) → Result RequestValue FrameError
whole api bytes [] v = Ok (record { correlation = correlation_of bytes; body = body_value api v.1 })
whole api bytes (b ∷ rest) v = Err frame.TrailingBytes

abbrev from_body : (api : Api) → List ℕ → At (Value (body_fields api)) → Result RequestValue FrameError
from_body api bytes (Ok x) = whole api bytes x.1 x.0
from_body api bytes (Err e) = Err (of_field e)

abbrev from_api : List ℕ → Result Api FrameError → Result RequestValue FrameError
from_api bytes (Ok api) = from_body api bytes (read_fields (body_fields api) (body_of bytes))
from_api bytes (Err e) = Err e

abbrev by_table : List ℕ → Result RequestValue FrameError
by_table bytes = from_api bytes (find_api (key_of bytes) (version_of bytes))

abbrev asked_or : Bool → List ℕ → Result RequestValue FrameError
asked_or asked bytes = cond asked (Ok (unread_request bytes)) (by_table bytes)

abbrev outcome : List ℕ → Result RequestValue FrameError
outcome bytes = cond (ltb (length bytes) 8) (Err frame.ShortHeader) (asked_or (is_unread (key_of bytes) (version_of bytes)) bytes)

-- ---- the table

found_api : (key version : ℤ) (api : Api) → IsApi key version api → find_api key version ≡ Ok api
found_api key version api is =
    ap (of_known version) (ap api_of_key is.0 ∙ key_finds api) ∙ right_version version api is.1

no_api : (key version : ℤ) (e : FrameError) → IsNoApi key version e → find_api key version ≡ Err e
no_api key version frame.UnknownApi h = ap (of_known version) (no_key key h)
no_api key version frame.BadVersion (known, k, h) =
    ap (of_known version) (ap api_of_key k ∙ key_finds known) ∙ wrong_version key version known k h
no_api key version frame.NegativeSize h = absurd h
no_api key version frame.TooLarge h = absurd h
no_api key version frame.ShortHeader h = absurd h
no_api key version frame.ShortBody h = absurd h
no_api key version frame.Malformed h = absurd h
no_api key version frame.TrailingBytes h = absurd h
no_api key version frame.OutOfMemory h = absurd h

-- ---- each outcome is the function's

-- a frame of at least eight bytes
behind_header : (bytes : List ℕ) → 8 ≤ length bytes → outcome bytes ≡ asked_or (is_unread (key_of bytes) (version_of bytes)) bytes
behind_header bytes has =
    ap (λ (b : Bool). cond b (Err frame.ShortHeader) (asked_or (is_unread (key_of bytes) (version_of bytes)) bytes)) (le-ltb _ _ has)

not_asked : (bytes : List ℕ) → 8 ≤ length bytes → is_unread (key_of bytes) (version_of bytes) ≡ false → outcome bytes ≡ by_table bytes
not_asked bytes has other = behind_header bytes has ∙ ap (λ (b : Bool). asked_or b bytes) other

-- each request of the table is read in its version
table_reads : (api : Api) → is_unread (api_key api) (api_version api) ≡ false
table_reads api = grind arith

of_table : (key version : ℤ) (api : Api) → IsApi key version api → is_unread key version ≡ false
of_table key version api is = (λ i. is_unread (is.0 i) (is.1 i)) ∙ table_reads api

other_request : (key version : ℤ) → key ≢ api_key ApiVersions → is_unread key version ≡ false
other_request key version other = grind (arith, ints)

of_api : (api : Api) (bytes : List ℕ) → IsOf api bytes → outcome bytes ≡ from_body api bytes (read_fields (body_fields api) (body_of bytes))
of_api api bytes is =
    not_asked bytes is.has_header (of_table (key_of bytes) (version_of bytes) api is.has_api)
    ∙ ap (from_api bytes) (found_api (key_of bytes) (version_of bytes) api is.has_api)

pub request_outcome : (bytes : List ℕ) (q : RequestValue) → IsRequest bytes q → outcome bytes ≡ Ok q
request_outcome bytes q (inr (asks, same)) =
    behind_header bytes asks.has_header
    ∙ ap (λ (b : Bool). asked_or b bytes) asks.is_unread
    ∙ ap Ok (sym same)
request_outcome bytes q (inl (api, is, v, e, same)) =
    of_api api bytes is ∙ ap (from_body api bytes) (encodes_read (body_fields api) v (body_of bytes) [] e) ∙ ap Ok (sym same)

fault_outcome : (e : FieldFault) (bytes : List ℕ) → HasFault e bytes → outcome bytes ≡ Err (of_field e)
fault_outcome e bytes (api, is, broken) =
    of_api api bytes is ∙ ap (from_body api bytes) (breaks_read (body_fields api) e (body_of bytes) broken)

left_over : (api : Api) (bytes rest : List ℕ) (v : Value (body_fields api)) → 0 < length rest → whole api bytes rest v ≡ Err frame.TrailingBytes
left_over api bytes [] v some = absurd (omega arith)
left_over api bytes (b ∷ rest) v some = refl

unknown_outcome : (e : FrameError) (bytes : List ℕ) → 8 ≤ length bytes → IsNoApi (key_of bytes) (version_of bytes) e → is_unread (key_of bytes) (version_of bytes) ≡ false → outcome bytes ≡ Err e
unknown_outcome e bytes has h read =
    not_asked bytes has read
    ∙ ap (from_api bytes) (no_api (key_of bytes) (version_of bytes) e h)

pub refusal_outcome : (e : FrameError) (bytes : List ℕ) → IsRefused e bytes → outcome bytes ≡ Err e
refusal_outcome frame.NegativeSize bytes h = absurd h
refusal_outcome frame.TooLarge bytes h = absurd h
refusal_outcome frame.ShortHeader bytes h =
    ap (λ (b : Bool). cond b (Err frame.ShortHeader) (asked_or (is_unread (key_of bytes) (version_of bytes)) bytes)) (lt-ltb _ _ h)
refusal_outcome frame.UnknownApi bytes h = unknown_outcome frame.UnknownApi bytes h.0 h.1 (other_request (key_of bytes) (version_of bytes) (h.1 ApiVersions))
refusal_outcome frame.BadVersion bytes h = unknown_outcome frame.BadVersion bytes h.0 h.1 h.2
refusal_outcome frame.ShortBody bytes h = fault_outcome field.ShortBody bytes h
refusal_outcome frame.Malformed bytes h = fault_outcome field.Malformed bytes h
refusal_outcome frame.TrailingBytes bytes (api, is, v, rest, e, some) =
    of_api api bytes is ∙ ap (from_body api bytes) (encodes_read (body_fields api) v (body_of bytes) rest e) ∙ left_over api bytes rest v some
refusal_outcome frame.OutOfMemory bytes h = absurd h

-- ---- there is one

abbrev okay : RequestValue → Result RequestValue FrameError
okay q = Ok q

abbrev refused : FrameError → Result RequestValue FrameError
refused e = Err e

same_okay : (q r : RequestValue) → okay q ≡ okay r → q ≡ r
same_okay q r e = cc

same_refusal : (e d : FrameError) → refused e ≡ refused d → e ≡ d
same_refusal e d h = cc

okay_or_refused : (q : RequestValue) (e : FrameError) → okay q ≡ refused e → ⊥
okay_or_refused q e h = absurd cc

pub one_request : (bytes : List ℕ) (q r : RequestValue) → IsRequest bytes q → IsRequest bytes r → q ≡ r
one_request bytes q r a b = same_okay q r (sym (request_outcome bytes q a) ∙ request_outcome bytes r b)

pub one_refusal : (bytes : List ℕ) (e d : FrameError) → IsRefused e bytes → IsRefused d bytes → e ≡ d
one_refusal bytes e d a b = same_refusal e d (sym (refusal_outcome e bytes a) ∙ refusal_outcome d bytes b)

pub never_both : (bytes : List ℕ) (q : RequestValue) (e : FrameError) → IsRequest bytes q → IsRefused e bytes → ⊥
never_both bytes q e a b = okay_or_refused q e (sym (request_outcome bytes q a) ∙ refusal_outcome e bytes b)
