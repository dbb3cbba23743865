-- The response to InitProducerId fits its fields, and the state stays sound: an id that is given out is not the greatest.
use Rattle.std.proofs.Common.{◌≡◌, ℕ, ◌≤◌, ℤ, pos, negsuc, ◌+ℤ◌, false, List, Option, None, arith}
use Rattle.std.specs.Prelude.{FitsSigned, is_some}
use Rattle.std.specs.Ordering.{int_eq}
use Rattle.std.specs.Int.{w16, w32, w64}
use Rattle.std.proofs.lemmas.Int.{ints}
use Rattle.frame_fields.specs.Fields.{Value, Fits, encoded}
use Rattle.request_frames.specs.InitProducerId.{init_producer_id_fields, init_producer_id_request}
use Rattle.responses.specs.InitProducerId.{init_producer_id_response, init_producer_id_value}
use Rattle.answering.specs.declared.codes.ErrorCode.TheVariants.{UnknownServerError, InvalidTransactionState}
use Rattle.answering.specs.Codes.{no_error, code_number}
use Rattle.answering.specs.Lists.{fault_if, first_some}
use Rattle.answering.specs.Work.{MayAnswer}
use Rattle.answering.specs.Once.{RepliesOnce}
use Rattle.broker_state.specs.State.{State}
use Rattle.broker_state.specs.Checks.{not_leader}
use Rattle.broker_state.specs.Producers.{greatest_int64, with_id_given}
use Rattle.broker_state.specs.Sound.{IsSound}
use Rattle.broker_state.proofs.Passed.{none_first, no_fault}
use Rattle.setup_requests.specs.InitProducerId.{init_producer_id_work, init_producer_id_sent}
use Rattle.broker_laws.proofs.Said.{IsPart}
use Rattle.broker_laws.proofs.Works.{no_error_fits, code_fits}
use Rattle.broker_laws.proofs.FittingResponses.{IsKept, frame_limit}
use Rattle.broker_laws.proofs.OnceFits.{FitsOnce, once_fits}

pub answered : (code id epoch : ℤ) → FitsSigned w16 code → FitsSigned w64 id → FitsSigned w16 epoch → FitsOnce init_producer_id_response (init_producer_id_value (record { code = code; producer_id = id; epoch = epoch }))
unfolding Fits encoded
answered code id epoch c i e = record { fits = (record { sfits = omega arith }, (c, (i, (e, tt)))); size = omega arith }

-- what passes the checks has an id left
pub id_left : (s : State) (id : Option (List ℕ)) → first_some (init_producer_id_work s id).early ≡ None → int_eq s.next_producer greatest_int64 ≡ false
id_left s id none =
    let one = none_first (fault_if (is_some id) InvalidTransactionState) _ none in
    let two = none_first (not_leader s) _ one.1 in
    no_fault _ UnknownServerError (none_first (fault_if (int_eq s.next_producer greatest_int64) UnknownServerError) _ two.1).0

pub next_fits : (z : ℤ) → FitsSigned w64 z → int_eq z greatest_int64 ≡ false → FitsSigned w64 (z +ℤ pos 1)
next_fits z fits left = let within = fits.sfits in record { sfits = grind (arith, ints, within, left) }

pub given_sound : (s : State) → IsSound s → int_eq s.next_producer greatest_int64 ≡ false → IsSound (with_id_given s)
given_sound s sound left = record {
  config = sound.config;
  topics = sound.topics;
  contents = sound.contents;
  next_producer = next_fits s.next_producer sound.next_producer left;
}

pub init_producer_id_fits : (n : ℕ) (s : State) (correlation : ℤ) (v : Value init_producer_id_fields) (out : Option (List ℕ)) (after : State) → n ≤ frame_limit → IsSound s → FitsSigned w32 correlation → IsPart n init_producer_id_fields v
    → RepliesOnce (λ R S w. MayAnswer w) (init_producer_id_sent correlation) (init_producer_id_work s (init_producer_id_request v)) s out after → IsKept correlation init_producer_id_response out after
init_producer_id_fits n s correlation v out after low sound number part h =
    let w = init_producer_id_work s (init_producer_id_request v) in
    once_fits correlation init_producer_id_response init_producer_id_value w s out after number sound
    (λ code. answered (code_number code) (negsuc 0) (negsuc 0) (code_fits code) (record { sfits = omega arith }) (record { sfits = omega arith }))
    (λ none. (
      answered no_error s.next_producer (pos 0) no_error_fits sound.next_producer (record { sfits = omega arith }),
      given_sound s sound (id_left s (init_producer_id_request v) none),
    ))
    h
