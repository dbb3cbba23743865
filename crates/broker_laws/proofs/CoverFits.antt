-- The response to Cover fits its fields: no more runs are sent, and each is of offsets.
use Rattle.std.proofs.Common.{◌≡◌, ℕ, ◌*◌, ◌≤◌, ℤ, pos, false, List, [], ◌∷◌, ◌++◌, length, Option, None, refl, sym, subst, arith}
use Rattle.std.specs.Prelude.{map, nat_lt, FitsSigned}
use Rattle.std.specs.List.{flat_map, All, AllByRecursion}
use Rattle.std.specs.Int.{w16, w32, w64}
use Rattle.std.proofs.lemmas.Int.{ints, fits_signed_from_abs}
use Rattle.std.proofs.lemmas.List.{length-append, length-map}
use Rattle.std.proofs.lemmas.List.Elements.{All-nil, All-head, All-tail}
use Rattle.cover_ranges.specs.Runs.{Runs, IsRun}
use Rattle.content.specs.Content.{IsContent}
use Rattle.frame_fields.specs.Fields.{size16, size32, Value, FitsLength, be, Fits, encoded}
use Rattle.frame_fields.proofs.Numbers.{length-be}
use Rattle.request_frames.specs.Cover.{cover_fields, cover_request}
use Rattle.responses.specs.Cover.{cover_run_fields, cover_run_value, cover_response, cover_value}
use Rattle.answering.specs.declared.codes.ErrorCode.{ErrorCode}
use Rattle.answering.specs.declared.codes.ErrorCode.TheVariants.{MessageTooLarge}
use Rattle.answering.specs.Codes.{no_error, code_number}
use Rattle.answering.specs.Lists.{fault_if, first_some}
use Rattle.answering.specs.Work.{MayAnswer}
use Rattle.answering.specs.Once.{RepliesOnce}
use Rattle.broker_state.specs.State.{State, content_at}
use Rattle.broker_state.specs.Checks.{unknown}
use Rattle.broker_state.specs.Sound.{IsSound}
use Rattle.broker_state.proofs.SoundStates.{content_valid}
use Rattle.broker_state.proofs.Passed.{none_first, none_both, no_fault}
use Rattle.copy_requests.specs.declared.cover.TheConstants.{MAX_COVER_RUNS}
use Rattle.copy_requests.specs.Cover.{CoverResult, cover_work, cover_sent}
use Rattle.broker_laws.proofs.Followed.{longer}
use Rattle.broker_laws.proofs.Said.{IsPart}
use Rattle.broker_laws.proofs.Works.{no_error_fits, code_fits}
use Rattle.broker_laws.proofs.FittingResponses.{IsKept, frame_limit}
use Rattle.broker_laws.proofs.OnceFits.{FitsOnce, once_fits}

-- ---- runs

run_fits : (run : ℤ × ℤ) → IsRun run → Fits cover_run_fields (cover_run_value run)
unfolding Fits
run_fits run is =
    let low = is.0 in
    let rises = is.1 in
    let high = is.2 in (
      fits_signed_from_abs w64 run.0 (omega (arith, ints, low, rises, high)),
      (fits_signed_from_abs w64 run.1 (omega (arith, ints, low, rises, high)), tt),
    )

runs_fit : (runs : Runs) → All IsRun runs → AllByRecursion (Fits cover_run_fields) (map cover_run_value runs)
runs_fit [] are = tt
runs_fit (run ∷ runs) are = (run_fits run (All-head IsRun run runs are), runs_fit runs (All-tail IsRun run runs are))

run_long : (run : ℤ × ℤ) → length (encoded cover_run_fields (cover_run_value run)) ≡ 16
unfolding encoded
run_long run = refl

runs_long : (runs : Runs) → length (flat_map (encoded cover_run_fields) (map cover_run_value runs)) ≡ 16 * length runs
runs_long [] = omega arith
runs_long (run ∷ runs) = omega (arith, longer (encoded cover_run_fields) (cover_run_value run) (map cover_run_value runs), run_long run, runs_long runs)

-- ---- a request

abbrev value_of : CoverResult → Value cover_response
value_of r = cover_value r.code r.runs

answered : (code : ℤ) (runs : Runs) → FitsSigned w16 code → All IsRun runs → length runs ≤ MAX_COVER_RUNS → FitsOnce cover_response (cover_value code runs)
unfolding Fits encoded
answered code runs c are few =
    let count = be size32 (pos (length (map cover_run_value runs))) in
    let all = flat_map (encoded cover_run_fields) (map cover_run_value runs) in
    let number : FitsLength size32 (length runs) = record { sfits = omega (arith, few) } in
    record {
      fits = (c, ((subst (FitsLength size32) (sym (length-map runs cover_run_value)) number, runs_fit runs are), tt));
      size = omega (
        arith,
        few,
        length-append (be size16 code) ((count ++ all) ++ []),
        length-be size16 code,
        length-append (count ++ all) [],
        length-append count all,
        length-be size32 (pos (length (map cover_run_value runs))),
        runs_long runs,
      );
    }

-- runs that pass the check are few enough
few_runs : (o : Option ErrorCode) (count : ℕ) → first_some (o ∷ fault_if (nat_lt MAX_COVER_RUNS count) MessageTooLarge ∷ []) ≡ None → count ≤ MAX_COVER_RUNS
few_runs o count none =
    let check = none_first o _ none in
    let within : nat_lt MAX_COVER_RUNS count ≡ false = no_fault _ MessageTooLarge (none_first (fault_if (nat_lt MAX_COVER_RUNS count) MessageTooLarge) None check.1).0 in
    grind (arith, within)

pub cover_fits : (n : ℕ) (s : State) (correlation : ℤ) (v : Value cover_fields) (out : Option (List ℕ)) (after : State) → n ≤ frame_limit → IsSound s → FitsSigned w32 correlation → IsPart n cover_fields v
    → RepliesOnce (λ R S w. MayAnswer w) (cover_sent correlation) (cover_work s (cover_request v)) s out after → IsKept correlation cover_response out after
cover_fits n s correlation v out after low sound number part h =
    let q = cover_request v in
    let c = content_at s q.topic q.partition in
    let is : IsContent c = content_valid s q.topic q.partition sound in
    once_fits correlation cover_response value_of (cover_work s q) s out after number sound
    (λ code. answered (code_number code) [] (code_fits code) (All-nil IsRun) (omega arith))
    (λ none. (answered no_error c.cover no_error_fits is.canonical.are_runs (few_runs (unknown s q.topic q.partition) (length c.cover) (none_both (cover_work s q).early [] none).0), sound))
    h
