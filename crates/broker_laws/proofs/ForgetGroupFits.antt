-- The response to ForgetGroup fits its fields, and the state stays sound: the keys that are forgotten have a batch.
use Rattle.std.proofs.Common.{◌≡◌, ℕ, ◌≤◌, ℤ, pos, List, [], ◌∷◌, length, Option, None, arith}
use Rattle.std.specs.Prelude.{not, FitsSigned}
use Rattle.std.specs.Option.{option_map}
use Rattle.std.specs.Int.{w16, w32}
use Rattle.batch_codec.specs.Grammar.{Writable, batch_encoding}
use Rattle.batch_codec.specs.declared.layout.TheConstants.{MAX_BATCH_BYTES}
use Rattle.content.specs.Content.{Content, IsContent}
use Rattle.frame_fields.specs.Fields.{Value, Fits, encoded}
use Rattle.request_frames.specs.ForgetGroup.{forget_group_fields, forget_group_request}
use Rattle.responses.specs.ForgetGroup.{forget_group_response, forget_group_value}
use Rattle.group_offsets.specs.declared.forget.TheConstants.{MAX_FORGOTTEN}
use Rattle.group_offsets.specs.Batches.{forget_batch}
use Rattle.group_offsets.specs.Groups.{group_keys}
use Rattle.group_offsets.proofs.BatchSizes.{few_fit, some_fit}
use Rattle.answering.specs.declared.codes.ErrorCode.TheVariants.{MessageTooLarge}
use Rattle.answering.specs.Codes.{no_error, code_number}
use Rattle.answering.specs.Lists.{fault_if, first_some}
use Rattle.answering.specs.Work.{MayAnswer}
use Rattle.answering.specs.Once.{RepliesOnce}
use Rattle.broker_state.specs.Codes.{append_code}
use Rattle.broker_state.specs.State.{State, group_topic}
use Rattle.broker_state.specs.Batches.{append_fault}
use Rattle.broker_state.specs.Sound.{IsSound}
use Rattle.broker_state.proofs.SoundStates.{content_valid, sound_with}
use Rattle.broker_state.proofs.Passed.{none_first, none_both, no_fault}
use Rattle.broker_state.proofs.ValidAppends.{appended_valid}
use Rattle.group_requests.specs.GroupPartition.{group_content}
use Rattle.group_requests.specs.ForgetGroup.{is_within_limit, forget_group_checks, forgotten, forget_group_work, forget_group_sent}
use Rattle.broker_laws.proofs.Said.{IsPart}
use Rattle.broker_laws.proofs.Works.{unmapped, no_error_fits, code_fits}
use Rattle.broker_laws.proofs.FittingResponses.{IsKept, frame_limit}
use Rattle.broker_laws.proofs.OnceFits.{FitsOnce, once_fits}

-- keys that pass the checks are few, and the content without them is valid
forgotten_valid : (c : Content) (keys : List (List ℕ)) → IsContent c → first_some (forget_group_checks c keys) ≡ None → (length keys ≤ MAX_FORGOTTEN) × IsContent (forgotten c keys)
forgotten_valid c [] is none = (omega arith, is)
forgotten_valid c (key ∷ keys) is none =
    let b = forget_batch (key ∷ keys) in
    let size = none_first (fault_if (not (is_within_limit b)) MessageTooLarge) _ none in
    let append = none_first (option_map append_code (append_fault c b)) None size.1 in
    let over = no_fault (not (is_within_limit b)) MessageTooLarge size.0 in
    let small : length (batch_encoding b) ≤ MAX_BATCH_BYTES = grind (arith, over) in
    let writable : Writable b = some_fit (key ∷ keys) (omega arith) small in
    (few_fit (key ∷ keys) small, (appended_valid c b is writable (unmapped append_code (append_fault c b) append.0)).1)

answered : (code : ℤ) (count : ℕ) → FitsSigned w16 code → count ≤ MAX_FORGOTTEN → FitsOnce forget_group_response (forget_group_value (record { code = code; count = pos count }))
unfolding Fits encoded
answered code count c few = record { fits = (c, (record { sfits = omega (arith, few) }, tt)); size = omega arith }

pub forget_group_fits : (n : ℕ) (s : State) (correlation : ℤ) (v : Value forget_group_fields) (out : Option (List ℕ)) (after : State) → n ≤ frame_limit → IsSound s → FitsSigned w32 correlation → IsPart n forget_group_fields v
    → RepliesOnce (λ R S w. MayAnswer w) (forget_group_sent correlation) (forget_group_work s (forget_group_request v)) s out after → IsKept correlation forget_group_response out after
forget_group_fits n s correlation v out after low sound number part h =
    let group = forget_group_request v in
    let c = group_content s in
    let keys = group_keys c group in
    let w = forget_group_work s group in
    once_fits correlation forget_group_response forget_group_value w s out after number sound
    (λ code. answered (code_number code) 0 (code_fits code) (omega arith))
    (λ none.
    let kept = forgotten_valid c keys (content_valid s group_topic (pos 0) sound) (none_both w.early w.late none).1 in
    (answered no_error (length keys) no_error_fits kept.0, sound_with s group_topic (pos 0) (forgotten c keys) kept.1 sound))
    h
