-- The table of requests by key and version. Kafka's documentation, "Protocol Guide", sections "Protocol API Keys" and
-- "Retrieving Supported API versions"; the keys from 20000 on are this project's own.
use Rattle.std.specs.Prelude.{◌≡◌, ◌≢◌, ℤ, pos, Bool, not, ◌&&◌, List, [], ◌∷◌}
use Rattle.std.specs.Ordering.{int_eq}
use Rattle.request_frames.specs.declared.api.Api.{Api}
use Rattle.request_frames.specs.declared.api.Api.TheVariants.{Produce, Fetch, ListOffsets, Metadata, OffsetCommit, OffsetFetch, FindCoordinator, ApiVersions, InitProducerId, Deliver, Clean, CleanPart, Export, ExportDelta, Import, ImportDelta, Get, Cover, ForgetGroup, Trim}
use Rattle.frame_fields.specs.declared.error.FrameError.{FrameError}
use Rattle.frame_fields.specs.declared.error.FrameError.TheVariants.{UnknownApi, BadVersion}

abbrev pub api_key : Api → ℤ
api_key Produce = pos 0
api_key Fetch = pos 1
api_key ListOffsets = pos 2
api_key Metadata = pos 3
api_key OffsetCommit = pos 8
api_key OffsetFetch = pos 9
api_key FindCoordinator = pos 10
api_key ApiVersions = pos 18
api_key InitProducerId = pos 22
api_key Deliver = pos 20000
api_key Clean = pos 20001
api_key CleanPart = pos 20001
api_key Export = pos 20002
api_key ExportDelta = pos 20002
api_key Import = pos 20003
api_key ImportDelta = pos 20003
api_key Get = pos 20004
api_key Cover = pos 20005
api_key ForgetGroup = pos 20006
api_key Trim = pos 20007

abbrev pub api_version : Api → ℤ
api_version Produce = pos 3
api_version Fetch = pos 4
api_version ListOffsets = pos 1
api_version Metadata = pos 1
api_version OffsetCommit = pos 2
api_version OffsetFetch = pos 1
api_version FindCoordinator = pos 0
api_version ApiVersions = pos 0
api_version InitProducerId = pos 0
api_version Deliver = pos 0
api_version Clean = pos 0
api_version CleanPart = pos 1
api_version Export = pos 0
api_version ExportDelta = pos 1
api_version Import = pos 0
api_version ImportDelta = pos 1
api_version Get = pos 0
api_version Cover = pos 0
api_version ForgetGroup = pos 0
api_version Trim = pos 0

-- the request of the same key in its other version; itself, where it has one version alone
abbrev pub other_version : Api → Api
other_version Clean = CleanPart
other_version CleanPart = Clean
other_version Export = ExportDelta
other_version ExportDelta = Export
other_version Import = ImportDelta
other_version ImportDelta = Import
other_version api = api

-- the requests of Kafka's own, by rising key: those that a client is told of
abbrev pub listed_apis : List Api
listed_apis =
    Produce ∷ Fetch ∷ ListOffsets ∷ Metadata ∷ OffsetCommit ∷ OffsetFetch
    ∷ FindCoordinator ∷ ApiVersions ∷ InitProducerId ∷ []

-- from here on keys are this project's own
abbrev pub first_own_key : ℤ
first_own_key = pos 20000

abbrev pub IsApi : (key version : ℤ) → Api → Type 0
IsApi key version api = (key ≡ api_key api) × (version ≡ api_version api)

-- a request has this key and version
abbrev pub HasApi : (key version : ℤ) → Type 0
HasApi key version = (api : Api) × IsApi key version api

-- ApiVersions, in a version that isn't the request's: of such a frame nothing but the header is read
abbrev pub is_unread : (key version : ℤ) → Bool
is_unread key version = int_eq key (api_key ApiVersions) && not (int_eq version (api_version ApiVersions))

-- why no request has this key and version
abbrev pub IsNoApi : (key version : ℤ) → FrameError → Type 0
IsNoApi key version UnknownApi = (api : Api) → key ≢ api_key api
IsNoApi key version BadVersion =
    (known : Api) × (key ≡ api_key known) × ((api : Api) → key ≡ api_key api → version ≢ api_version api)
IsNoApi key version e = ⊥
