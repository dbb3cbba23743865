-- The table of requests, looked up by key: two that have the same one are a request in its two versions.
use Rattle.std.proofs.Common.{◌≡◌, ◌≢◌, cond, ℤ, Option, Some, None, refl, ap, sym, subst, ◌∙◌, arith, ◌⊎◌, inl, inr, Result, Ok, Err}
use Rattle.std.specs.Ordering.{int_eq}
use Rattle.std.proofs.lemmas.Int.{ints}
use Rattle.std.proofs.lemmas.Option.{same_Some}
use Rattle.request_frames.specs.declared.api.Api.{Api}
use Rattle.request_frames.specs.declared.api.Api.TheVariants.{Produce, Fetch, ListOffsets, Metadata, OffsetCommit, OffsetFetch, FindCoordinator, ApiVersions, InitProducerId, Deliver, Clean, CleanPart, Export, ExportDelta, Import, ImportDelta, Get, Cover, ForgetGroup, Trim}
use Rattle.frame_fields.specs.declared.error.FrameError.{FrameError}
use Rattle.frame_fields.specs.declared.error.FrameError.TheVariants.{BadVersion}
use Rattle.request_frames.specs.Apis.{api_key, api_version, other_version, IsNoApi}

-- the request of a key, else what other keys give
abbrev with_key : (key : ℤ) → Api → Option Api → Option Api
with_key key api others = cond (int_eq key (api_key api)) (Some api) others

abbrev pub api_of_key : ℤ → Option Api
api_of_key key =
    with_key key Produce (
    with_key key Fetch (
    with_key key ListOffsets (
    with_key key Metadata (
    with_key key OffsetCommit (
    with_key key OffsetFetch (
    with_key key FindCoordinator (
    with_key key ApiVersions (
    with_key key InitProducerId (
    with_key key Deliver (
    with_key key Clean (
    with_key key Export (
    with_key key Import (
    with_key key Get (
    with_key key Cover (
    with_key key ForgetGroup (
    with_key key Trim None))))))))))))))))

-- the request of the same key, of two versions the lesser
abbrev pub oldest : Api → Api
oldest CleanPart = Clean
oldest ExportDelta = Export
oldest ImportDelta = Import
oldest api = api

-- the one of the two versions, else none
abbrev pub in_version : (version : ℤ) → Api → Result Api FrameError
in_version version old =
    cond (int_eq version (api_version old)) (Ok old)
    (cond (int_eq version (api_version (other_version old))) (Ok (other_version old)) (Err BadVersion))

pub key_finds : (api : Api) → api_of_key (api_key api) ≡ Some (oldest api)
key_finds api = grind arith

one_of_two : (api : Api) → (api ≡ oldest api) ⊎ (api ≡ other_version (oldest api))
one_of_two api = grind arith

other_of_other : (api : Api) → other_version (other_version api) ≡ api
other_of_other api = grind arith

other_key : (api : Api) → api_key (other_version api) ≡ api_key api
other_key api = grind arith

same_oldest : (a b : Api) (key : ℤ) → key ≡ api_key a → key ≡ api_key b → oldest a ≡ oldest b
same_oldest a b key of_a of_b =
    same_Some (oldest a) (oldest b) (sym (key_finds a) ∙ ap api_of_key (sym of_a ∙ of_b) ∙ key_finds b)

-- of two requests with one oldest, the one is the other, or its other version
same_or_other : (a b old : Api) → (a ≡ old) ⊎ (a ≡ other_version old) → (b ≡ old) ⊎ (b ≡ other_version old) → (b ≡ a) ⊎ (b ≡ other_version a)
same_or_other a b old (inl a_is) (inl b_is) = inl (b_is ∙ sym a_is)
same_or_other a b old (inl a_is) (inr b_is) = inr (b_is ∙ ap other_version (sym a_is))
same_or_other a b old (inr a_is) (inl b_is) = inr (b_is ∙ sym (ap other_version a_is ∙ other_of_other old))
same_or_other a b old (inr a_is) (inr b_is) = inl (b_is ∙ sym a_is)

not_this : (key : ℤ) (api : Api) (others : Option Api) → key ≢ api_key api → others ≡ None → with_key key api others ≡ None
not_this key api others other_key none = grind (arith, ints)

pub no_key : (key : ℤ) → ((api : Api) → key ≢ api_key api) → api_of_key key ≡ None
no_key key other =
    not_this key Produce _ (other Produce) (
    not_this key Fetch _ (other Fetch) (
    not_this key ListOffsets _ (other ListOffsets) (
    not_this key Metadata _ (other Metadata) (
    not_this key OffsetCommit _ (other OffsetCommit) (
    not_this key OffsetFetch _ (other OffsetFetch) (
    not_this key FindCoordinator _ (other FindCoordinator) (
    not_this key ApiVersions _ (other ApiVersions) (
    not_this key InitProducerId _ (other InitProducerId) (
    not_this key Deliver _ (other Deliver) (
    not_this key Clean _ (other Clean) (
    not_this key Export _ (other Export) (
    not_this key Import _ (other Import) (
    not_this key Get _ (other Get) (
    not_this key Cover _ (other Cover) (
    not_this key ForgetGroup _ (other ForgetGroup) (
    not_this key Trim _ (other Trim) refl))))))))))))))))

no_version_of : (version : ℤ) (known api : Api) → version ≢ api_version known → version ≢ api_version (other_version known) → (api ≡ known) ⊎ (api ≡ other_version known)
    → version ≢ api_version api
no_version_of version known api first second (inl is) = subst (λ (a : Api). version ≢ api_version a) (sym is) first
no_version_of version known api first second (inr is) = subst (λ (a : Api). version ≢ api_version a) (sym is) second

-- another version of a request than its two
pub no_version : (key version : ℤ) (known : Api) → key ≡ api_key known → version ≢ api_version known → version ≢ api_version (other_version known)
    → IsNoApi key version BadVersion
no_version key version known is first second = (
  known,
  is,
  λ api same.
      no_version_of version known api first second (
      same_or_other known api (oldest known) (one_of_two known)
      (subst (λ (old : Api). (api ≡ old) ⊎ (api ≡ other_version old)) (same_oldest api known key same is) (one_of_two api))),
)

-- ---- a version among the two of a request

pub right_version : (version : ℤ) (api : Api) → version ≡ api_version api → in_version version (oldest api) ≡ Ok api
right_version version api is = ap (λ (v : ℤ). in_version v (oldest api)) is ∙ table api
  where
    table : (api : Api) → in_version (api_version api) (oldest api) ≡ Ok api
    table api = grind arith

oldest_key : (api : Api) → (api ≡ oldest api) ⊎ (api ≡ other_version (oldest api)) → api_key api ≡ api_key (oldest api)
oldest_key api (inl is) = ap api_key is
oldest_key api (inr is) = ap api_key is ∙ other_key (oldest api)

in_neither : (version : ℤ) (old : Api) → version ≢ api_version old → version ≢ api_version (other_version old) → in_version version old ≡ Err BadVersion
in_neither version old first second = grind (arith, ints)

pub wrong_version : (key version : ℤ) (known : Api) → key ≡ api_key known → ((api : Api) → key ≡ api_key api → version ≢ api_version api) → in_version version (oldest known) ≡ Err BadVersion
wrong_version key version known is none =
    let old = oldest known in
    let of_old : key ≡ api_key old = is ∙ oldest_key known (one_of_two known) in
    in_neither version old (none old of_old) (none (other_version old) (of_old ∙ sym (other_key old)))
