-- The response to Export fits its fields: no larger image is sent, and no larger delta.
use Rattle.std.proofs.Common.{◌≡◌, ℕ, ◌≤◌, ℤ, pos, false, List, [], ◌∷◌, ◌++◌, length, Option, None, arith}
use Rattle.std.specs.Prelude.{nat_lt, FitsSigned}
use Rattle.std.specs.Int.{w16, w32}
use Rattle.std.proofs.lemmas.List.{length-append}
use Rattle.copy_images.specs.Images.{image_of}
use Rattle.frame_fields.specs.Fields.{size16, size32, Value, be, Fits, encoded}
use Rattle.frame_fields.proofs.Numbers.{length-be}
use Rattle.request_frames.specs.Export.{export_fields, export_request}
use Rattle.responses.specs.Export.{export_response, export_value}
use Rattle.answering.specs.declared.codes.ErrorCode.{ErrorCode}
use Rattle.answering.specs.declared.codes.ErrorCode.TheVariants.{MessageTooLarge}
use Rattle.answering.specs.Codes.{no_error, code_number}
use Rattle.answering.specs.Lists.{fault_if, first_some}
use Rattle.answering.specs.Work.{MayAnswer}
use Rattle.answering.specs.Once.{RepliesOnce}
use Rattle.broker_state.specs.State.{State, content_at}
use Rattle.broker_state.specs.Checks.{unknown}
use Rattle.broker_state.specs.Sound.{IsSound}
use Rattle.broker_state.proofs.Passed.{none_first, none_both, no_fault}
use Rattle.copy_requests.specs.declared.export.TheConstants.{MAX_EXPORT_BYTES}
use Rattle.copy_requests.specs.Export.{ExportResult, export_work, export_sent}
use Rattle.broker_laws.proofs.Said.{IsPart}
use Rattle.broker_laws.proofs.Works.{no_error_fits, code_fits}
use Rattle.broker_laws.proofs.FittingResponses.{IsKept, frame_limit}
use Rattle.broker_laws.proofs.OnceFits.{FitsOnce, once_fits}

abbrev pub value_of : ExportResult → Value export_response
value_of r = export_value r.code r.sent

pub answered : (code : ℤ) (sent : List ℕ) → FitsSigned w16 code → length sent ≤ MAX_EXPORT_BYTES → FitsOnce export_response (export_value code sent)
unfolding Fits encoded
answered code sent c small =
    let count = be size32 (pos (length sent)) in
    record {
      fits = (c, (record { sfits = omega (arith, small) }, tt));
      size = omega (
        arith,
        small,
        length-append (be size16 code) ((count ++ sent) ++ []),
        length-be size16 code,
        length-append (count ++ sent) [],
        length-append count sent,
        length-be size32 (pos (length sent)),
      );
    }

-- what passes the check is of a size that is sent
pub is_small : (o : Option ErrorCode) (size : ℕ) → first_some (o ∷ fault_if (nat_lt MAX_EXPORT_BYTES size) MessageTooLarge ∷ []) ≡ None → size ≤ MAX_EXPORT_BYTES
is_small o size none =
    let check = none_first o _ none in
    let within : nat_lt MAX_EXPORT_BYTES size ≡ false = no_fault _ MessageTooLarge (none_first (fault_if (nat_lt MAX_EXPORT_BYTES size) MessageTooLarge) None check.1).0 in
    grind (arith, within)

pub export_fits : (n : ℕ) (s : State) (correlation : ℤ) (v : Value export_fields) (out : Option (List ℕ)) (after : State) → n ≤ frame_limit → IsSound s → FitsSigned w32 correlation → IsPart n export_fields v
    → RepliesOnce (λ R S w. MayAnswer w) (export_sent correlation) (export_work s (export_request v)) s out after → IsKept correlation export_response out after
export_fits n s correlation v out after low sound number part h =
    let q = export_request v in
    let image = image_of (content_at s q.topic q.partition) in
    once_fits correlation export_response value_of (export_work s q) s out after number sound
    (λ code. answered (code_number code) [] (code_fits code) (omega arith))
    (λ none. (answered no_error image no_error_fits (is_small (unknown s q.topic q.partition) (length image) (none_both (export_work s q).early [] none).0), sound))
    h
