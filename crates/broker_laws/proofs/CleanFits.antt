-- The response to Clean, in either version, fits its fields, and the state stays sound.
use Rattle.std.proofs.Common.{◌^◌, ℕ, ◌<◌, ◌≤◌, ℤ, pos, List, Option, arith}
use Rattle.std.specs.Prelude.{FitsSigned}
use Rattle.std.specs.Int.{w16, w32, w64}
use Rattle.content.specs.Content.{Content, IsContent}
use Rattle.content_laws.proofs.ContentSteps.{content_clean, content_part}
use Rattle.frame_fields.specs.Fields.{Value, Fits, encoded}
use Rattle.request_frames.specs.Clean.{clean_fields, clean_request}
use Rattle.request_frames.specs.CleanPart.{clean_part_fields, clean_part_request}
use Rattle.responses.specs.Clean.{clean_response, clean_value}
use Rattle.answering.specs.Codes.{no_error, code_number}
use Rattle.answering.specs.Work.{MayAnswer}
use Rattle.answering.specs.Once.{RepliesOnce}
use Rattle.broker_state.specs.State.{State, content_at}
use Rattle.broker_state.specs.Sound.{IsSound}
use Rattle.broker_state.proofs.SoundStates.{content_valid, sound_with}
use Rattle.copy_requests.specs.declared.clean.Cleaning.{Cleaning}
use Rattle.copy_requests.specs.declared.clean.Cleaning.TheVariants.{Whole, Part}
use Rattle.copy_requests.specs.Clean.{cleaned, cleaning_report, asked_part, cleaning_work, clean_work, clean_part_work, clean_sent}
use Rattle.copy_requests.specs.Outcomes.{CountsFit}
use Rattle.copy_requests.proofs.Counts.{counts_fit}
use Rattle.broker_laws.proofs.Said.{IsPart}
use Rattle.broker_laws.proofs.Works.{no_error_fits, code_fits}
use Rattle.broker_laws.proofs.FittingResponses.{IsKept, frame_limit}
use Rattle.broker_laws.proofs.OnceFits.{FitsOnce, once_fits}

count_fits : (n : ℕ) → n < 2 ^ 63 → FitsSigned w64 (pos n)
count_fits n small = record { sfits = omega (arith, small) }

answered : (code : ℤ) (records tombstones batches : ℕ) → FitsSigned w16 code → records < 2 ^ 63 → tombstones < 2 ^ 63 → batches < 2 ^ 63
    → FitsOnce clean_response (clean_value (record { code = code; records = pos records; tombstones = pos tombstones; batches = pos batches }))
unfolding Fits encoded
answered code records tombstones batches c r t b = record {
  fits = (c, (count_fits records r, (count_fits tombstones t, (count_fits batches b, tt))));
  size = omega arith;
}

pub content_cleaned : (cleaning : Cleaning) (c : Content) → IsContent c → IsContent (cleaned cleaning c)
content_cleaned (Whole upto tomb_before) c is = content_clean upto tomb_before c is
content_cleaned (Part part) c is = content_part part c is

cleaning_fits : (s : State) (correlation : ℤ) (name : List ℕ) (p : ℤ) (cleaning : Cleaning) (out : Option (List ℕ)) (after : State) → IsSound s → FitsSigned w32 correlation
    → RepliesOnce (λ R S w. MayAnswer w) (clean_sent correlation) (cleaning_work s name p cleaning) s out after → IsKept correlation clean_response out after
cleaning_fits s correlation name p cleaning out after sound number h =
    let c = content_at s name p in
    let is = content_valid s name p sound in
    let report = cleaning_report cleaning c in
    let counts : CountsFit report = counts_fit cleaning c is in
    once_fits correlation clean_response clean_value (cleaning_work s name p cleaning) s out after number sound
    (λ code. answered (code_number code) 0 0 0 (code_fits code) (omega arith) (omega arith) (omega arith))
    (λ none. (
      answered no_error report.records report.tombstones report.batches no_error_fits counts.records counts.tombstones counts.batches,
      sound_with s name p (cleaned cleaning c) (content_cleaned cleaning c is) sound,
    ))
    h

pub clean_fits : (n : ℕ) (s : State) (correlation : ℤ) (v : Value clean_fields) (out : Option (List ℕ)) (after : State) → n ≤ frame_limit → IsSound s → FitsSigned w32 correlation → IsPart n clean_fields v
    → RepliesOnce (λ R S w. MayAnswer w) (clean_sent correlation) (clean_work s (clean_request v)) s out after → IsKept correlation clean_response out after
clean_fits n s correlation v out after low sound number part h =
    let q = clean_request v in
    cleaning_fits s correlation q.topic q.partition (Whole q.upto q.tomb_before) out after sound number h

pub clean_part_fits : (n : ℕ) (s : State) (correlation : ℤ) (v : Value clean_part_fields) (out : Option (List ℕ)) (after : State) → n ≤ frame_limit → IsSound s → FitsSigned w32 correlation → IsPart n clean_part_fields v
    → RepliesOnce (λ R S w. MayAnswer w) (clean_sent correlation) (clean_part_work s (clean_part_request v)) s out after → IsKept correlation clean_response out after
clean_part_fits n s correlation v out after low sound number part h =
    let q = clean_part_request v in
    cleaning_fits s correlation q.topic q.partition (Part (asked_part q)) out after sound number h
