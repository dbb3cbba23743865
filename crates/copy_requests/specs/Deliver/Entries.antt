-- Deliver: a batch that is sent to a copy which takes batches, as the code goes.
use Rattle.std.specs.Prelude.{◌≡◌, ℕ, ℤ, false, List, [], ◌∷◌, ◌++◌, Option, Some, None, Result, Ok, Err}
use Rattle.std.specs.Option.{option_map}
use Rattle.batch_codec.specs.Reading.{batch_of}
use Rattle.content.specs.Content.{Content, has_seen_all, add}
use Rattle.content.specs.declared.delivery.Delivered.{Delivered}
use Rattle.responses.specs.declared.deliver.DeliverAnswer.{DeliverAnswer}
use Rattle.answering.specs.declared.codes.ErrorCode.{ErrorCode}
use Rattle.answering.specs.declared.memory.Refused.{Refused}
use Rattle.answering.specs.declared.memory.Refused.TheVariants.{Check, OutOfMemory}
use Rattle.answering.specs.Codes.{no_error}
use Rattle.answering.specs.Lists.{first_some}
use Rattle.broker_state.specs.Batches.{batch_checks}
use Rattle.broker_state.specs.State.{State, content_at, with_content}
use Rattle.copy_requests.specs.Codes.{deliver_code}
use Rattle.copy_requests.specs.Deliver.{deliver_fault}
use Rattle.copy_requests.specs.Outcomes.{is_repeat}

-- the checks of the bytes, and of the batch that they are
abbrev pub bytes_checks : Content → List ℕ → List (Option ErrorCode)
bytes_checks c bytes = batch_checks bytes ++ option_map deliver_code (deliver_fault c (batch_of bytes)) ∷ []

-- the batch is taken, or was before; or it is refused, or memory lacks, and nothing changes
abbrev pub DeliversBytesAt : State → (name : List ℕ) (p : ℤ) → List ℕ → Result Delivered Refused → State → Type 0
DeliversBytesAt s name p bytes (Ok delivered) after =
    let c = content_at s name p in
    (first_some (bytes_checks c bytes) ≡ None) × (is_repeat delivered ≡ has_seen_all c (batch_of bytes))
    × (after ≡ with_content s name p (add c (batch_of bytes)))
DeliversBytesAt s name p bytes (Err (Check code)) after =
    (first_some (bytes_checks (content_at s name p) bytes) ≡ Some code) × (after ≡ s)
DeliversBytesAt s name p bytes (Err OutOfMemory) after =
    let c = content_at s name p in
    (first_some (bytes_checks c bytes) ≡ None) × (has_seen_all c (batch_of bytes) ≡ false) × (after ≡ s)

abbrev pub delivered_answer : Delivered → DeliverAnswer
delivered_answer delivered = record { code = no_error; repeat = is_repeat delivered }
