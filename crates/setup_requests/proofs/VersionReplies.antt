-- What is written of the versions is the reply; the numbers are passed on by value.
use Rattle.std.proofs.Common.{◌≡◌, ℕ, ℤ, List, ◌++◌, length, sym, ap, ◌∙◌}
use Rattle.std.specs.List.{flat_map}
use Rattle.frame_fields.specs.Fields.{size32, be, encoded}
use Rattle.frame_fields.specs.Frames.{framed}
use Rattle.responses.specs.declared.api_versions.range.VersionRange.{VersionRange}
use Rattle.responses.specs.ApiVersions.{api_versions_response, api_versions_value, api_versions_head_bytes, version_range_bytes}
use Rattle.setup_requests.specs.ApiVersions.{listed_ranges, versions_code, api_versions_reply}

pub reply_written : (n sent version passed code written : ℤ) (old new : List ℕ) → sent ≡ n → passed ≡ version → written ≡ code → code ≡ versions_code passed
    → ((code : ℤ) (ranges : List VersionRange) → encoded api_versions_response (api_versions_value code ranges) ≡ api_versions_head_bytes code (length ranges) ++ flat_map version_range_bytes ranges)
    → new ≡ old ++ framed (be size32 sent ++ (api_versions_head_bytes written (length listed_ranges) ++ flat_map version_range_bytes listed_ranges)) → new ≡ old ++ api_versions_reply n version
reply_written n sent version passed code written old new same same_version same_code is law e =
    let answers : written ≡ versions_code version = same_code ∙ is ∙ ap versions_code same_version in
    e
    ∙ ap (λ (b : List ℕ). old ++ framed (be size32 sent ++ b)) (sym (law written listed_ranges))
    ∙ (λ i. old ++ framed (be size32 (same i) ++ encoded api_versions_response (api_versions_value (answers i) listed_ranges)))
