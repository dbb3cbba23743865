-- The response to Export in version 1 fits its fields: no larger delta is sent.
use Rattle.std.proofs.Common.{ℕ, ◌≤◌, ℤ, List, [], length, Option, arith}
use Rattle.std.specs.Prelude.{FitsSigned}
use Rattle.std.specs.Int.{w32}
use Rattle.frame_fields.specs.Fields.{Value}
use Rattle.request_frames.specs.ExportDelta.{export_delta_fields, export_delta_request}
use Rattle.responses.specs.Export.{export_response}
use Rattle.answering.specs.Codes.{no_error, code_number}
use Rattle.answering.specs.Work.{MayAnswer}
use Rattle.answering.specs.Once.{RepliesOnce}
use Rattle.broker_state.specs.State.{State, content_at}
use Rattle.broker_state.specs.Checks.{unknown}
use Rattle.broker_state.specs.Sound.{IsSound}
use Rattle.broker_state.proofs.Passed.{none_first}
use Rattle.copy_requests.specs.Export.{export_sent}
use Rattle.copy_requests.specs.ExportDelta.{asked_fault, delta_for, export_delta_work}
use Rattle.broker_laws.proofs.Said.{IsPart}
use Rattle.broker_laws.proofs.Works.{no_error_fits, code_fits}
use Rattle.broker_laws.proofs.FittingResponses.{IsKept, frame_limit}
use Rattle.broker_laws.proofs.OnceFits.{once_fits}
use Rattle.broker_laws.proofs.ExportFits.{value_of, answered, is_small}

pub export_delta_fits : (n : ℕ) (s : State) (correlation : ℤ) (v : Value export_delta_fields) (out : Option (List ℕ)) (after : State) → n ≤ frame_limit → IsSound s → FitsSigned w32 correlation → IsPart n export_delta_fields v
    → RepliesOnce (λ R S w. MayAnswer w) (export_sent correlation) (export_delta_work s (export_delta_request v)) s out after → IsKept correlation export_response out after
export_delta_fits n s correlation v out after low sound number part h =
    let q = export_delta_request v in
    let delta = delta_for (content_at s q.topic q.partition) q.asked in
    once_fits correlation export_response value_of (export_delta_work s q) s out after number sound
    (λ code. answered (code_number code) [] (code_fits code) (omega arith))
    (λ none. (answered no_error delta no_error_fits (is_small (asked_fault q.asked) (length delta) (none_first (unknown s q.topic q.partition) _ none).1), sound))
    h
