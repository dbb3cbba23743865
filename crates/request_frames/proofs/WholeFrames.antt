-- From what is read of a frame to what the frame is.
use Rattle.std.proofs.Common.{◌≡◌, inl, inr, ℕ, zero, suc, ◌<◌, ◌≤◌, Bool, true, false, ℤ, List, [], length, Option, Result, Ok, Err, refl, ap, sym, subst, ◌∙◌, arith, to_z, of_z}
use Rattle.std.specs.Prelude.{FitsSigned, ◌==◌}
use Rattle.std.specs.Int.{w16, w32, cast_signed, cast_unsigned}
use Rattle.std.proofs.lemmas.Bool.{eqb-true}
use Rattle.std.proofs.lemmas.Int.{to_z-of_z}
use Rattle.std.proofs.lemmas.List.{nil_from_length}
use Rattle.request_frames.specs.declared.api.Api.{Api}
use Rattle.request_frames.specs.declared.api.Api.TheVariants.{Produce, Fetch, ListOffsets, Metadata, OffsetCommit, OffsetFetch, FindCoordinator, ApiVersions, InitProducerId, Deliver, Clean, CleanPart, Export, ExportDelta, Import, ImportDelta, Get, Cover, ForgetGroup, Trim}
use Rattle.frame_fields.specs.declared.error.FieldFault.{FieldFault}
use Rattle.frame_fields.specs.declared.error.FrameError.{FrameError}
use Rattle.frame_fields.specs.declared.error.FrameError.TheVariants as frame
use Rattle.request_frames.specs.declared.parsing.Header.{Header}
use Rattle.request_frames.specs.Apis.{is_unread, IsApi, IsNoApi}
use Rattle.frame_fields.specs.Fields.{Value, Encodes}
use Rattle.frame_fields.specs.Types.{nullable_string}
use Rattle.frame_fields.specs.Reading.{◌>>=◌, At, map_read, then_read, read_field, read_fields}
use Rattle.request_frames.specs.Requests.BodyValue.{api_versions}
use Rattle.request_frames.specs.Requests.{BodyValue, RequestValue, fields_of, body_fields, body_value, body_of, key_of, version_of, correlation_of, IsOf, IsRequest, HasFault, IsRefused}
use Rattle.request_frames.specs.Bodies.{read_body, read_request}
use Rattle.request_frames.specs.Views.{IsHeaderOf}
use Rattle.frame_fields.proofs.Numbers.{IsBytes, IsBytes-drop}
use Rattle.frame_fields.proofs.ReaderLaws.{map_read_ok, map_read_err, map_read_twice}
use Rattle.frame_fields.proofs.FieldLaws.{read_encodes, read_breaks}

-- ---- reading as the code goes, and by descriptions

body_is : (api : Api) (bytes : List ℕ) → read_body api bytes ≡ map_read (body_value api) (read_fields (fields_of api) bytes)
body_is Produce bytes = map_read_twice _ _ (read_fields (fields_of Produce) bytes)
body_is Fetch bytes = map_read_twice _ _ (read_fields (fields_of Fetch) bytes)
body_is ListOffsets bytes = map_read_twice _ _ (read_fields (fields_of ListOffsets) bytes)
body_is Metadata bytes = map_read_twice _ _ (read_fields (fields_of Metadata) bytes)
body_is OffsetCommit bytes = map_read_twice _ _ (read_fields (fields_of OffsetCommit) bytes)
body_is OffsetFetch bytes = map_read_twice _ _ (read_fields (fields_of OffsetFetch) bytes)
body_is FindCoordinator bytes = map_read_twice _ _ (read_fields (fields_of FindCoordinator) bytes)
body_is ApiVersions bytes = map_read_twice _ _ (read_fields (fields_of ApiVersions) bytes)
body_is InitProducerId bytes = map_read_twice _ _ (read_fields (fields_of InitProducerId) bytes)
body_is Deliver bytes = map_read_twice _ _ (read_fields (fields_of Deliver) bytes)
body_is Clean bytes = map_read_twice _ _ (read_fields (fields_of Clean) bytes)
body_is CleanPart bytes = map_read_twice _ _ (read_fields (fields_of CleanPart) bytes)
body_is Export bytes = map_read_twice _ _ (read_fields (fields_of Export) bytes)
body_is ExportDelta bytes = map_read_twice _ _ (read_fields (fields_of ExportDelta) bytes)
body_is Import bytes = map_read_twice _ _ (read_fields (fields_of Import) bytes)
body_is ImportDelta bytes = map_read_twice _ _ (read_fields (fields_of ImportDelta) bytes)
body_is Get bytes = map_read_twice _ _ (read_fields (fields_of Get) bytes)
body_is Cover bytes = map_read_twice _ _ (read_fields (fields_of Cover) bytes)
body_is ForgetGroup bytes = map_read_twice _ _ (read_fields (fields_of ForgetGroup) bytes)
body_is Trim bytes = map_read_twice _ _ (read_fields (fields_of Trim) bytes)

behind_client : (api : Api) (r : At (Option (List ℕ))) → (r >>= λ client. read_body api client.1) ≡ map_read (λ v. body_value api v.1) (then_read r (read_fields (fields_of api)))
behind_client api (Err e) = refl
behind_client api (Ok x) = body_is api x.1 ∙ sym (map_read_twice (λ y. (x.0, y)) (λ v. body_value api v.1) (read_fields (fields_of api) x.1))

request_is : (api : Api) (bytes : List ℕ) → read_request api bytes ≡ map_read (λ v. body_value api v.1) (read_fields (body_fields api) bytes)
unfolding read_request read_fields
request_is api bytes = behind_client api (read_field nullable_string bytes)

-- ---- what the frame is

abbrev faulty : {A : Type 0} → FieldFault → Result A FieldFault
faulty e = Err e

encodes_body : (api : Api) (bytes : List ℕ) (body : BodyValue) (rest : List ℕ) → IsBytes bytes → read_request api bytes ≡ Ok (body, rest)
    → (v : Value (body_fields api)) × Encodes (body_fields api) v bytes rest × (body ≡ body_value api v.1)
encodes_body api bytes body rest fits read =
    let w = map_read_ok (λ v. body_value api v.1) (read_fields (body_fields api) bytes) body rest (sym (request_is api bytes) ∙ read) in
    (w.0, read_encodes (body_fields api) w.0 bytes rest fits w.1, sym w.2)

module _ (api : Api) (bytes : List ℕ) (fits : IsBytes bytes) (is : IsOf api bytes) (behind : List ℕ) (there : behind ≡ body_of bytes) where
  pub all_read : (body : BodyValue) (rest : List ℕ) → read_request api behind ≡ Ok (body, rest) → length rest ≡ 0
      → IsRequest bytes (record { correlation = correlation_of bytes; body = body })
  all_read body rest read no_more =
      let e = encodes_body api (body_of bytes) body rest (IsBytes-drop 8 bytes fits) (ap (read_request api) (sym there) ∙ read) in
      let nothing_left : rest ≡ [] = nil_from_length rest no_more in
      inl (api, is, e.0, subst (Encodes (body_fields api) e.0 (body_of bytes)) nothing_left e.1, λ i. record { correlation = correlation_of bytes; body = e.2 i })

  pub bytes_left : (body : BodyValue) (rest : List ℕ) → read_request api behind ≡ Ok (body, rest) → 0 < length rest → IsRefused frame.TrailingBytes bytes
  bytes_left body rest read more =
      let e = encodes_body api (body_of bytes) body rest (IsBytes-drop 8 bytes fits) (ap (read_request api) (sym there) ∙ read) in
      (api, is, e.0, rest, e.1, more)

  pub fault_found : (e f : FieldFault) → e ≡ f → read_request api behind ≡ Err e → HasFault f bytes
  fault_found e f same read =
      let fault : read_request api (body_of bytes) ≡ faulty f = ap (read_request api) (sym there) ∙ read ∙ ap faulty same in
      let broken = map_read_err (λ v. body_value api v.1) (read_fields (body_fields api) (body_of bytes)) f (sym (request_is api (body_of bytes)) ∙ fault) in
      (api, is, read_breaks (body_fields api) f (body_of bytes) (IsBytes-drop 8 bytes fits) broken)

-- a number that was passed on, and the correlation id of the frame
pub correlates : (bytes : List ℕ) (z : ℤ) (body : BodyValue) → FitsSigned w32 z → z ≡ correlation_of bytes
    → IsRequest bytes (record { correlation = correlation_of bytes; body = body }) → IsRequest bytes (record { correlation = cast_signed w32 (cast_unsigned w32 z); body = body })
correlates bytes z body fits e q = subst (λ (c : ℤ). IsRequest bytes (record { correlation = c; body = body })) (sym (to_z-of_z w32 z fits ∙ e)) q

pub empty_length : (b : Bool) (n : ℕ) → b ≡ (n == 0) → b ≡ true → n ≡ 0
empty_length b n e t = eqb-true n 0 (sym e ∙ t)

pub some_length : (b : Bool) (n : ℕ) → b ≡ (n == 0) → b ≡ false → 0 < n
some_length b zero e f = absurd cc
some_length b (suc n) e f = omega arith

-- ---- ApiVersions in a version that isn't read

pub unread_read : (bytes : List ℕ) (h : Header) (q : RequestValue) → 8 ≤ length bytes → IsHeaderOf bytes h → is_unread h.key h.version ≡ true
    → q ≡ record { correlation = h.correlation; body = api_versions h.version } → IsRequest bytes q
unread_read bytes h q long is unread same = inr (
  record { has_header = long; is_unread = (λ i. is_unread (sym is.key i) (sym is.version i)) ∙ unread },
  same ∙ (λ i. record { correlation = is.correlation i; body = api_versions (is.version i) }),
)

-- ---- what the header says of the request, its two numbers passed on by value

module _ (bytes : List ℕ) (key version : ℤ) (key_fits : FitsSigned w16 key) (version_fits : FitsSigned w16 version) (long : 8 ≤ length bytes) (is_key : key ≡ key_of bytes) (is_version : version ≡ version_of bytes)
    (read_whole : is_unread key version ≡ false) where
  sent_key : to_z w16 (of_z w16 key) ≡ key_of bytes
  sent_key = to_z-of_z w16 key key_fits ∙ is_key

  sent_version : to_z w16 (of_z w16 version) ≡ version_of bytes
  sent_version = to_z-of_z w16 version version_fits ∙ is_version

  still_read : is_unread (key_of bytes) (version_of bytes) ≡ false
  still_read = subst (λ (v : ℤ). is_unread (key_of bytes) v ≡ false) is_version (subst (λ (k : ℤ). is_unread k version ≡ false) is_key read_whole)

  pub api_found : (api : Api) → IsApi (to_z w16 (of_z w16 key)) (to_z w16 (of_z w16 version)) api → IsOf api bytes
  api_found api found = record { has_header = long; has_api = (sym sent_key ∙ found.0, sym sent_version ∙ found.1) }

  no_api : (e : FrameError) → IsNoApi (key_of bytes) (version_of bytes) e → IsRefused e bytes
  no_api frame.UnknownApi none = (long, none)
  no_api frame.BadVersion none = (long, none, still_read)
  no_api frame.NegativeSize none = absurd none
  no_api frame.TooLarge none = absurd none
  no_api frame.ShortHeader none = absurd none
  no_api frame.ShortBody none = absurd none
  no_api frame.Malformed none = absurd none
  no_api frame.TrailingBytes none = absurd none
  no_api frame.OutOfMemory none = absurd none

  pub api_not_found : (e : FrameError) → IsNoApi (to_z w16 (of_z w16 key)) (to_z w16 (of_z w16 version)) e → IsRefused e bytes
  api_not_found e none =
      no_api e (subst (λ (v : ℤ). IsNoApi (key_of bytes) v e) sent_version (subst (λ (k : ℤ). IsNoApi k (to_z w16 (of_z w16 version)) e) sent_key none))
