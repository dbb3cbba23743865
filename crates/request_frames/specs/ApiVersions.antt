-- ApiVersions, version 0: its fields, and what it says. Kafka's documentation, "Protocol Guide", sections "The
-- Messages" and "Retrieving Supported API versions".
use Rattle.std.specs.Prelude.{ℤ}
use Rattle.request_frames.specs.declared.api.Api.TheVariants.{ApiVersions}
use Rattle.request_frames.specs.declared.api_versions.ApiVersionsRequest.{ApiVersionsRequest}
use Rattle.frame_fields.specs.Fields.{Fields, end, Value}
use Rattle.request_frames.specs.Apis.{api_version}

-- ---- its fields

-- none
abbrev pub api_versions_fields : Fields
api_versions_fields = end

-- ---- what it says: the version in which it is asked

abbrev pub api_versions_request : Value api_versions_fields → ℤ
api_versions_request v = api_version ApiVersions

-- ---- apart from where its bytes lie

abbrev pub api_versions_view : ApiVersionsRequest → ℤ
api_versions_view r = r.version
