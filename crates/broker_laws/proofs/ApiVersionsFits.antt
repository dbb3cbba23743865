-- The response to ApiVersions, in whatever version it is asked, fits its fields.
use Rattle.std.proofs.Common.{◌≡◌, ℕ, ◌^◌, ◌<◌, ◌≤◌, ℤ, pos, Bool, true, false, cond, List, [], ◌++◌, length, Option, Some, refl, sym, subst, arith}
use Rattle.std.specs.Prelude.{FitsSigned, map}
use Rattle.std.specs.List.{AllByRecursion}
use Rattle.std.specs.Ordering.{int_eq}
use Rattle.std.specs.Int.{w16, w32}
use Rattle.std.proofs.lemmas.List.{length-append}
use Rattle.frame_fields.specs.Fields.{size16, Value, be, elements, Fits, encoded}
use Rattle.frame_fields.proofs.Numbers.{length-be}
use Rattle.request_frames.specs.declared.api.Api.TheVariants.{ApiVersions}
use Rattle.request_frames.specs.Apis.{api_version}
use Rattle.request_frames.specs.ApiVersions.{api_versions_fields, api_versions_request}
use Rattle.responses.specs.ApiVersions.{version_range_fields, version_range_value, api_versions_response, api_versions_value}
use Rattle.answering.specs.declared.codes.ErrorCode.TheVariants.{UnsupportedVersion}
use Rattle.answering.specs.Codes.{no_error, code_number}
use Rattle.broker_state.specs.State.{State}
use Rattle.broker_state.specs.Sound.{IsSound}
use Rattle.broker_node.specs.Fitting.{FitsIfSent}
use Rattle.setup_requests.specs.ApiVersions.{listed_ranges, versions_code, api_versions_reply}
use Rattle.broker_laws.proofs.Said.{IsPart}
use Rattle.broker_laws.proofs.Works.{no_error_fits, code_fits}
use Rattle.broker_laws.proofs.FittingResponses.{enough, fitting_response, IsKept, frame_limit}

range_fits : (key version : ℕ) → key < 2 ^ 15 → version < 2 ^ 15 → Fits version_range_fields (pos key, (pos version, (pos version, tt)))
unfolding Fits
range_fits key version k v = (record { sfits = omega (arith, k) }, (record { sfits = omega (arith, v) }, (record { sfits = omega (arith, v) }, tt)))

all_fit : AllByRecursion (Fits version_range_fields) (map version_range_value listed_ranges)
all_fit = (
  range_fits 0 3 (omega arith) (omega arith),
  (
    range_fits 1 4 (omega arith) (omega arith),
    (
      range_fits 2 1 (omega arith) (omega arith),
      (
        range_fits 3 1 (omega arith) (omega arith),
        (
          range_fits 8 2 (omega arith) (omega arith),
          (
            range_fits 9 1 (omega arith) (omega arith),
            (
              range_fits 10 0 (omega arith) (omega arith),
              (
                range_fits 18 0 (omega arith) (omega arith),
                (range_fits 22 0 (omega arith) (omega arith), tt),
              ),
            ),
          ),
        ),
      ),
    ),
  ),
)

versions_code_fits : (version : ℤ) → FitsSigned w16 (versions_code version)
versions_code_fits version = by (int_eq version (api_version ApiVersions))
  where
    by : (b : Bool) → FitsSigned w16 (cond b no_error (code_number UnsupportedVersion))
    by true = no_error_fits
    by false = code_fits UnsupportedVersion

all_fits : (code : ℤ) → FitsSigned w16 code → Fits api_versions_response (api_versions_value code listed_ranges)
unfolding Fits
all_fits code c = (c, ((record { sfits = omega arith }, all_fit), tt))

all_long : (code : ℤ) → length (encoded api_versions_response (api_versions_value code listed_ranges)) ≤ enough
unfolding encoded
all_long code =
    let more = elements (encoded version_range_fields) (map version_range_value listed_ranges) ++ [] in
    let rest : length more ≡ 58 = refl in
    omega (arith, rest, length-append (be size16 code) more, length-be size16 code)

pub versions_fit : (s : State) (correlation version : ℤ) (out : Option (List ℕ)) (after : State) → IsSound s → FitsSigned w32 correlation
    → (out ≡ Some (api_versions_reply correlation version)) × (after ≡ s) → IsKept correlation api_versions_response out after
versions_fit s correlation version out after sound number h =
    let code = versions_code version in (
      subst (FitsIfSent correlation api_versions_response) (sym h.0) (fitting_response correlation api_versions_response (api_versions_value code listed_ranges) number (all_fits code (versions_code_fits version)) (all_long code)),
      subst IsSound (sym h.1) sound,
    )

pub api_versions_fits : (n : ℕ) (s : State) (correlation : ℤ) (v : Value api_versions_fields) (out : Option (List ℕ)) (after : State) → n ≤ frame_limit → IsSound s → FitsSigned w32 correlation → IsPart n api_versions_fields v
    → (out ≡ Some (api_versions_reply correlation (api_versions_request v))) × (after ≡ s) → IsKept correlation api_versions_response out after
api_versions_fits n s correlation v out after low sound number part h = versions_fit s correlation (api_versions_request v) out after sound number h
