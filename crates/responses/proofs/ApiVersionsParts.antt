-- The parts of an ApiVersions response, one after the other, are the encoding of its fields.
use Rattle.std.proofs.Common.{◌≡◌, ℕ, ℤ, pos, List, [], ◌++◌, length, refl, ap, ◌∙◌}
use Rattle.std.specs.List.{flat_map}
use Rattle.frame_fields.specs.Fields.{size16, size32, be, encoded}
use Rattle.responses.specs.declared.api_versions.range.VersionRange.{VersionRange}
use Rattle.responses.specs.ApiVersions.{version_range_fields, api_versions_response, version_range_value, api_versions_value, api_versions_head_bytes, version_range_bytes}
use Rattle.responses.proofs.ResponseParts.{elements_of, after_count}

pub api_versions_parts : (code : ℤ) (ranges : List VersionRange)
    → encoded api_versions_response (api_versions_value code ranges) ≡ api_versions_head_bytes code (length ranges) ++ flat_map version_range_bytes ranges
unfolding encoded
api_versions_parts code ranges =
    ap (λ (x : List ℕ). be size16 code ++ (x ++ [])) (elements_of (encoded version_range_fields) version_range_value version_range_bytes (λ r. refl) ranges)
    ∙ after_count (be size16 code) (be size32 (pos (length ranges))) (flat_map version_range_bytes ranges)
