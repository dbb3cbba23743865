-- The response to FindCoordinator fits its fields: the host is that of a valid configuration.
use Rattle.std.proofs.Common.{ℕ, ◌≤◌, ℤ, pos, negsuc, List, [], ◌++◌, length, Option, arith}
use Rattle.std.specs.Prelude.{FitsSigned}
use Rattle.std.specs.Int.{w16, w32}
use Rattle.std.proofs.lemmas.List.{length-append}
use Rattle.frame_fields.specs.Fields.{size16, size32, Value, be, Fits, encoded}
use Rattle.frame_fields.proofs.Numbers.{length-be}
use Rattle.request_frames.specs.FindCoordinator.{find_coordinator_fields, find_coordinator_request}
use Rattle.responses.specs.FindCoordinator.{CoordinatorAnswer, find_coordinator_response, find_coordinator_value}
use Rattle.answering.specs.Codes.{no_error, code_number}
use Rattle.answering.specs.Work.{MayAnswer}
use Rattle.answering.specs.Once.{RepliesOnce}
use Rattle.broker_state.specs.declared.limits.TheConstants.{MAX_HOST_BYTES}
use Rattle.broker_state.specs.State.{State}
use Rattle.broker_state.specs.Sound.{IsSound}
use Rattle.broker_state.proofs.Shapes.{small_config}
use Rattle.setup_requests.specs.FindCoordinator.{find_coordinator_work, find_coordinator_sent}
use Rattle.broker_laws.proofs.Said.{IsPart}
use Rattle.broker_laws.proofs.Works.{no_error_fits, code_fits}
use Rattle.broker_laws.proofs.FittingResponses.{IsKept, frame_limit}
use Rattle.broker_laws.proofs.OnceFits.{FitsOnce, once_fits}

answered : (a : CoordinatorAnswer) → FitsSigned w16 a.code → FitsSigned w32 a.node_id → length a.host ≤ MAX_HOST_BYTES → FitsSigned w32 a.port → FitsOnce find_coordinator_response (find_coordinator_value a)
unfolding Fits encoded
answered a code node_id host port =
    let size = be size16 (pos (length a.host)) in
    let behind = be size32 a.port ++ [] in
    record {
      fits = (code, (node_id, (record { sfits = omega (arith, host) }, (port, tt))));
      size = omega (
        arith,
        host,
        length-append (be size16 a.code) (be size32 a.node_id ++ ((size ++ a.host) ++ behind)),
        length-be size16 a.code,
        length-append (be size32 a.node_id) ((size ++ a.host) ++ behind),
        length-be size32 a.node_id,
        length-append (size ++ a.host) behind,
        length-append size a.host,
        length-be size16 (pos (length a.host)),
        length-append (be size32 a.port) [],
        length-be size32 a.port,
      );
    }

pub find_coordinator_fits : (n : ℕ) (s : State) (correlation : ℤ) (v : Value find_coordinator_fields) (out : Option (List ℕ)) (after : State) → n ≤ frame_limit → IsSound s → FitsSigned w32 correlation → IsPart n find_coordinator_fields v
    → RepliesOnce (λ R S w. MayAnswer w) (find_coordinator_sent correlation) (find_coordinator_work s (find_coordinator_request v)) s out after → IsKept correlation find_coordinator_response out after
find_coordinator_fits n s correlation v out after low sound number part h =
    let port = sound.config.port in
    once_fits correlation find_coordinator_response find_coordinator_value (find_coordinator_work s (find_coordinator_request v)) s out after number sound
    (λ code. answered (record { code = code_number code; node_id = negsuc 0; host = []; port = negsuc 0 }) (code_fits code) (record { sfits = omega arith }) (omega arith) (record { sfits = omega arith }))
    (λ none. (
      answered (record { code = no_error; node_id = s.config.node_id; host = s.config.host; port = pos s.config.port }) no_error_fits sound.config.node_id (small_config s.config sound.config.valid).host (record { sfits = omega (arith, port) }),
      sound,
    ))
    h
