-- No frame is read by both readers: their keys are apart.
use Rattle.std.proofs.Common.{◌≡◌, ◌≢◌, inl, inr, ℕ, ◌≤◌, ℤ, pos, Bool, true, false, List, length, sym, ap, ◌∙◌, arith}
use Rattle.std.specs.Prelude.{◌&&◌, int_le}
use Rattle.std.proofs.lemmas.Int.{ints}
use Rattle.request_frames.specs.declared.api.Api.{Api}
use Rattle.request_frames.specs.declared.api.Api.TheVariants.{ApiVersions}
use Rattle.frame_fields.specs.declared.error.FrameError.TheVariants as frame
use Rattle.request_frames.specs.Apis.{api_key, is_unread}
use Rattle.request_frames.specs.Requests.{RequestValue, IsRequest, IsRefused, key_of, version_of}
use Rattle.member_frames.specs.declared.api.MemberApi.{MemberApi}
use Rattle.member_frames.specs.MemberApis.{member_key, HasMemberKey}
use Rattle.member_frames.specs.MemberRequests.{MemberRequestValue, IsMemberRequest, IsMemberRefused}

abbrev is_members : ℤ → Bool
is_members key = int_le (pos 11) key && int_le key (pos 14)

members_key : (api : MemberApi) → is_members (member_key api) ≡ true
members_key api = grind arith

brokers_key : (api : Api) → is_members (api_key api) ≡ false
brokers_key api = grind arith

true_or_false : (b : Bool) → b ≡ true → b ≡ false → ⊥
true_or_false b is isnt = let clash : true ≡ false = sym is ∙ isnt in absurd cc

pub apart : (api : Api) (member : MemberApi) → api_key api ≢ member_key member
apart api member same = true_or_false (is_members (member_key member)) (members_key member) (ap is_members (sym same) ∙ brokers_key api)

unread_key : (key version : ℤ) → is_unread key version ≡ true → key ≡ api_key ApiVersions
unread_key key version is = grind (arith, ints)

pub read_by_one : (bytes : List ℕ) (q : RequestValue) (m : MemberRequestValue) → IsRequest bytes q → IsMemberRequest bytes m → ⊥
read_by_one bytes q m (inl (api, is, v, e, same)) (member, of, w, f, also) = apart api member (sym is.has_api.0 ∙ of.has_api.0)
read_by_one bytes q m (inr (unread, same)) (member, of, w, f, also) =
    apart ApiVersions member (sym (unread_key (key_of bytes) (version_of bytes) unread.is_unread) ∙ of.has_api.0)

pub unknown_to_broker : (bytes : List ℕ) → 8 ≤ length bytes → HasMemberKey (key_of bytes) → IsRefused frame.UnknownApi bytes
unknown_to_broker bytes long has = (long, λ api same. apart api has.0 (sym same ∙ has.1))

pub unknown_to_members : (bytes : List ℕ) (api : Api) → 8 ≤ length bytes → key_of bytes ≡ api_key api → IsMemberRefused frame.UnknownApi bytes
unknown_to_members bytes api long is = (long, λ member same. apart api member (sym is ∙ same))
