-- ApiVersions in a version that isn't read: the frame is that one request, and its version is not 0.
use Rattle.std.proofs.Common.{◌≡◌, ◌≢◌, inr, ℕ, ℤ, Bool, true, false, cond, List, refl, ap, subst, ◌∙◌}
use Rattle.std.specs.Ordering.{int_eq}
use Rattle.std.proofs.lemmas.Int.{ints}
use Rattle.std.proofs.Common.{arith}
use Rattle.frame_fields.specs.declared.error.FrameError.TheVariants.{BadVersion}
use Rattle.request_frames.specs.declared.api.Api.TheVariants.{ApiVersions}
use Rattle.request_frames.specs.Apis.{api_key, api_version, is_unread}
use Rattle.request_frames.specs.Requests.{RequestValue, key_of, version_of, correlation_of, IsUnread, unread_request, IsRequest, IsRefused}
use Rattle.request_frames.proofs.OneOutcome.{one_request}
use Rattle.responses.specs.Responses.{response}
use Rattle.responses.specs.ApiVersions.{api_versions_response, api_versions_value}
use Rattle.answering.specs.declared.codes.ErrorCode.TheVariants.{UnsupportedVersion}
use Rattle.answering.specs.Codes.{no_error, code_number}
use Rattle.answering.specs.Responding.{sent}
use Rattle.broker_state.specs.State.{State}
use Rattle.broker_node.specs.Replies.{MayReply}
use Rattle.broker_node.specs.Streams.{IsAnswered}
use Rattle.setup_requests.specs.ApiVersions.{listed_ranges, versions_code}

pub is_request : (frame : List ℕ) → IsUnread frame → IsRequest frame (unread_request frame)
is_request frame unread = inr (unread, refl)

-- ---- what is sent

other_version : (key version : ℤ) → is_unread key version ≡ true → int_eq version (api_version ApiVersions) ≡ false
other_version key version e = grind (arith, ints, e)

code_is : (frame : List ℕ) → IsUnread frame → versions_code (version_of frame) ≡ code_number UnsupportedVersion
code_is frame unread = ap (λ (b : Bool). cond b no_error (code_number UnsupportedVersion)) (other_version (key_of frame) (version_of frame) unread.is_unread)

abbrev answered : List ℕ → ℤ → List ℕ
answered frame code = response (correlation_of frame) api_versions_response (api_versions_value code listed_ranges)

pub same_list : (s after : State) (frame out : List ℕ) → IsUnread frame → IsAnswered s frame out after
    → (out ≡ response (correlation_of frame) api_versions_response (api_versions_value (code_number UnsupportedVersion) listed_ranges)) × (after ≡ s)
same_list s after frame out unread is =
    let same : is.request ≡ unread_request frame = one_request frame is.request (unread_request frame) is.reads (is_request frame unread) in
    let replied = subst (λ (q : RequestValue). MayReply s q is.response after) same is.replies in
    (is.sends ∙ ap sent replied.0 ∙ ap (answered frame) (code_is frame unread), replied.1)

-- ---- what is never refused

unread_of : (key version : ℤ) → key ≡ api_key ApiVersions → version ≢ api_version ApiVersions → is_unread key version ≡ true
unread_of key version same other = grind (arith, ints, other)

not_both : (b : Bool) → b ≡ true → b ≡ false → ⊥
not_both b e f = absurd cc

pub never_bad : (frame : List ℕ) → key_of frame ≡ api_key ApiVersions → IsRefused BadVersion frame → ⊥
never_bad frame same refused =
    not_both (is_unread (key_of frame) (version_of frame)) (unread_of (key_of frame) (version_of frame) same (refused.1.2 ApiVersions same)) refused.2
