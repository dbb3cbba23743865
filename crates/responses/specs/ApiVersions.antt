-- The response to ApiVersions, version 0: its fields, the values that these take, and the parts in which they are
-- written. Kafka's documentation, "Protocol Guide", section "The Messages".
use Rattle.std.specs.Prelude.{ℕ, ℤ, pos, List, map}
use Rattle.responses.specs.declared.api_versions.range.VersionRange.{VersionRange}
use Rattle.frame_fields.specs.Fields.{Fields, end, array, Value, encoded}
use Rattle.frame_fields.specs.Types.{int16, int32, ◌⨾◌}

-- a request: api key, least version, greatest version
abbrev pub version_range_fields : Fields
version_range_fields = int16 ⨾ int16 ⨾ int16 ⨾ end

-- error code, requests
abbrev pub api_versions_response : Fields
api_versions_response = int16 ⨾ array version_range_fields end

abbrev pub version_range_value : VersionRange → Value version_range_fields
version_range_value r = (r.key, (r.least, (r.greatest, tt)))

abbrev pub api_versions_value : (code : ℤ) (ranges : List VersionRange) → Value api_versions_response
api_versions_value code ranges = (code, (map version_range_value ranges, tt))

-- before the requests: the error code, their count
abbrev pub api_versions_head_bytes : (code : ℤ) (count : ℕ) → List ℕ
api_versions_head_bytes code count = encoded (int16 ⨾ int32 ⨾ end) (code, (pos count, tt))

abbrev pub version_range_bytes : VersionRange → List ℕ
version_range_bytes r = encoded version_range_fields (version_range_value r)
