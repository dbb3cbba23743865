-- The response to Import in version 1 fits its fields, and the state stays sound: a delta leaves a valid content.
use Rattle.std.proofs.Common.{◌≡◌, ℕ, ◌≤◌, ℤ, List, [], Option, Some, None, refl}
use Rattle.std.specs.Prelude.{FitsSigned}
use Rattle.std.specs.Option.{unwrap_or}
use Rattle.std.specs.Int.{w32}
use Rattle.content.specs.Content.{empty}
use Rattle.partition_log.proofs.Kept.{empty_content}
use Rattle.deltas.specs.Deltas.{Delta, IsDelta, delta_of}
use Rattle.deltas.specs.Patches.{patch}
use Rattle.deltas.proofs.PatchContents.{content_patch}
use Rattle.deltas.proofs.Validity.{delta_is}
use Rattle.delta_bytes.specs.Deltas.{IsDeltaOf}
use Rattle.delta_bytes.specs.Reading.{delta_at}
use Rattle.delta_bytes.proofs.ReadBack.{delta_read}
use Rattle.frame_fields.specs.Fields.{Value, end}
use Rattle.frame_fields.specs.Frames.{IsBytes}
use Rattle.request_frames.specs.ImportDelta.{import_delta_fields, import_delta_request}
use Rattle.responses.specs.Import.{import_response, import_value}
use Rattle.answering.specs.Codes.{no_error, code_number}
use Rattle.answering.specs.Work.{MayAnswer}
use Rattle.answering.specs.Once.{RepliesOnce}
use Rattle.broker_state.specs.State.{State, content_at}
use Rattle.broker_state.specs.Sound.{IsSound}
use Rattle.broker_state.proofs.SoundStates.{content_valid, sound_with}
use Rattle.copy_requests.specs.Import.{import_sent}
use Rattle.copy_requests.specs.ImportDelta.{given_delta, import_delta_work}
use Rattle.broker_laws.proofs.Said.{IsPart, later}
use Rattle.broker_laws.proofs.Works.{no_error_fits, code_fits}
use Rattle.broker_laws.proofs.FittingResponses.{IsKept, frame_limit}
use Rattle.broker_laws.proofs.OnceFits.{once_fits, bytes_said}
use Rattle.broker_laws.proofs.ImportFits.{answered}

given_valid : (bytes : List ℕ) → IsBytes bytes → IsDelta (given_delta bytes)
given_valid bytes are = by (delta_at bytes) refl
  where
    by : (o : Option Delta) → delta_at bytes ≡ o → IsDelta (unwrap_or o (delta_of empty []))
    by None h = delta_is empty [] empty_content empty_content.canonical
    by (Some e) h = let read : IsDeltaOf bytes e = delta_read bytes e are h in read.valid

pub import_delta_fits : (n : ℕ) (s : State) (correlation : ℤ) (v : Value import_delta_fields) (out : Option (List ℕ)) (after : State) → n ≤ frame_limit → IsSound s → FitsSigned w32 correlation → IsPart n import_delta_fields v
    → RepliesOnce (λ R S w. MayAnswer w) (import_sent correlation) (import_delta_work s (import_delta_request v)) s out after → IsKept correlation import_response out after
import_delta_fits n s correlation v out after low sound number part h =
    let q = import_delta_request v in
    let here = content_at s q.topic q.partition in
    let given = given_delta q.delta in
    let valid = content_patch here given (content_valid s q.topic q.partition sound) (given_valid q.delta (bytes_said end v.1.1 (later (later part)).said)) in
    once_fits correlation import_response import_value (import_delta_work s q) s out after number sound
    (λ code. answered (code_number code) (code_fits code))
    (λ none. (answered no_error no_error_fits, sound_with s q.topic q.partition (patch here given) valid sound))
    h
