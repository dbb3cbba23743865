-- ApiVersions: the requests that a broker answers, and in which versions. Kafka's documentation, "Protocol Guide",
-- section "Retrieving Supported API versions": a broker that doesn't know the version in which it is asked answers in
-- version 0, with an error code. This project's own requests are not told of.
use Rattle.std.specs.Prelude.{ℕ, ℤ, ◌<ℤ◌, Bool, ◌&&◌, int_le, List, [], ◌∷◌, map, if◌then◌else◌, ⊤}
use Rattle.std.specs.List.{list_any}
use Rattle.std.specs.Ordering.{int_eq}
use Rattle.request_frames.specs.declared.api.Api.{Api}
use Rattle.request_frames.specs.declared.api.Api.TheVariants.{ApiVersions}
use Rattle.request_frames.specs.Apis.{api_key, api_version, listed_apis}
use Rattle.responses.specs.declared.api_versions.range.VersionRange.{VersionRange}
use Rattle.responses.specs.Responses.{response}
use Rattle.responses.specs.ApiVersions.{api_versions_response, api_versions_value}
use Rattle.answering.specs.declared.codes.ErrorCode.TheVariants.{UnsupportedVersion}
use Rattle.answering.specs.Codes.{no_error, code_number}

-- each request is answered in one version
abbrev pub version_range : Api → VersionRange
version_range api = record { key = api_key api; least = api_version api; greatest = api_version api }

abbrev pub listed_ranges : List VersionRange
listed_ranges = map version_range listed_apis

-- the code that answers a question in this version
abbrev pub versions_code : (version : ℤ) → ℤ
versions_code version = if int_eq version (api_version ApiVersions) then no_error else code_number UnsupportedVersion

-- It has no entries, and is read of no state.
abbrev pub api_versions_reply : (correlation version : ℤ) → List ℕ
api_versions_reply correlation version =
    response correlation api_versions_response (api_versions_value (versions_code version) listed_ranges)

-- ---- what a client reads of it

-- the list has the key, with the version in its range
abbrev pub lists : List VersionRange → (key version : ℤ) → Bool
lists ranges key version =
    list_any (λ r. int_eq r.key key && (int_le r.least version && int_le version r.greatest)) ranges

-- each key is greater than the one before it
abbrev pub AreRising : List VersionRange → Type 0
AreRising [] = ⊤
AreRising (r ∷ []) = ⊤
AreRising (r ∷ s ∷ ranges) = (r.key <ℤ s.key) × AreRising (s ∷ ranges)
