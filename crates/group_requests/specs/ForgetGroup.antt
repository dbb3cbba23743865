-- ForgetGroup: a group's offsets are deleted, by one batch with a tombstone for each of its keys that has a value. This
-- project's own request; see Kafka's design documentation, "Log Compaction" (a null value deletes its key).
pub mod Entries
use Rattle.std.specs.Prelude.{ℕ, ℤ, pos, true, not, nat_le, Bool, List, [], ◌∷◌, length, Option}
use Rattle.std.specs.Option.{option_map}
use Rattle.batch_codec.specs.Values.{BatchValue}
use Rattle.batch_codec.specs.Grammar.{batch_encoding}
use Rattle.batch_codec.specs.declared.layout.TheConstants.{MAX_BATCH_BYTES}
use Rattle.content.specs.Content.{Content}
use Rattle.responses.specs.declared.forget_group.ForgetGroupAnswer.{ForgetGroupAnswer}
use Rattle.responses.specs.Responses.{response}
use Rattle.responses.specs.ForgetGroup.{forget_group_response, forget_group_value}
use Rattle.group_offsets.specs.Batches.{forget_batch}
use Rattle.group_offsets.specs.Groups.{group_keys}
use Rattle.answering.specs.declared.codes.ErrorCode.{ErrorCode}
use Rattle.answering.specs.declared.codes.ErrorCode.TheVariants.{MessageTooLarge}
use Rattle.answering.specs.Lists.{fault_if}
use Rattle.answering.specs.Codes.{no_error, code_number}
use Rattle.answering.specs.Work.{Work}
use Rattle.broker_state.specs.Codes.{append_code}
use Rattle.broker_state.specs.State.{State}
use Rattle.broker_state.specs.Checks.{no_group, not_leader}
use Rattle.broker_state.specs.Batches.{append_fault, appended}
use Rattle.group_requests.specs.GroupPartition.{group_content, with_group_content}

abbrev pub is_within_limit : BatchValue → Bool
is_within_limit b = nat_le (length (batch_encoding b)) MAX_BATCH_BYTES

-- the checks of the batch that forgets these keys; without a key there is none
abbrev pub forget_group_checks : Content → List (List ℕ) → List (Option ErrorCode)
forget_group_checks c [] = []
forget_group_checks c (key ∷ keys) =
    let b = forget_batch (key ∷ keys) in
    fault_if (not (is_within_limit b)) MessageTooLarge ∷ option_map append_code (append_fault c b) ∷ []

abbrev pub forgotten : Content → List (List ℕ) → Content
forgotten c [] = c
forgotten c (key ∷ keys) = (appended c (forget_batch (key ∷ keys))).1

abbrev pub forget_group_work : State → List ℕ → Work ForgetGroupAnswer State
forget_group_work s group =
    let c = group_content s in
    let keys = group_keys c group in
    record {
      early = no_group group ∷ not_leader s ∷ [];
      takes_memory = true;
      late = forget_group_checks c keys;
      done = (record { code = no_error; count = pos (length keys) }, with_group_content s (forgotten c keys));
      failed = λ code. record { code = code_number code; count = pos 0 };
    }

abbrev pub forget_group_sent : (correlation : ℤ) → ForgetGroupAnswer → List ℕ
forget_group_sent correlation r = response correlation forget_group_response (forget_group_value r)
