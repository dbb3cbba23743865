-- Forgetting a group's keys, as the code goes. Words of private clauses.
use Rattle.std.specs.Prelude.{◌≡◌, ◌≤◌, ⊤, ℕ, ℤ, pos, false, List, [], length, Option, Some, None, Result, Ok, Err}
use Rattle.batch_codec.specs.Values.{BatchValue}
use Rattle.batch_codec.specs.Grammar.{Writable}
use Rattle.responses.specs.declared.forget_group.ForgetGroupAnswer.{ForgetGroupAnswer}
use Rattle.group_offsets.specs.declared.forget.TheConstants.{MAX_FORGOTTEN}
use Rattle.group_offsets.specs.Batches.{forget_batch}
use Rattle.group_offsets.specs.Groups.{group_keys}
use Rattle.answering.specs.declared.codes.ErrorCode.TheVariants.{MessageTooLarge}
use Rattle.answering.specs.declared.memory.Refused.{Refused}
use Rattle.answering.specs.declared.memory.Refused.TheVariants.{Check, OutOfMemory}
use Rattle.answering.specs.Codes.{no_error}
use Rattle.answering.specs.Lists.{first_some}
use Rattle.broker_state.specs.State.{State}
use Rattle.group_requests.specs.GroupPartition.{group_content, with_group_content}
use Rattle.group_requests.specs.Appending.{AppendsToGroups}
use Rattle.group_requests.specs.ForgetGroup.{is_within_limit, forget_group_checks, forgotten}

-- the batch that forgets these keys, and can be encoded; none where there is no key; or it is too large, or memory lacks
abbrev pub IsBatchOf : List (List ℕ) → Result (Option BatchValue) Refused → Type 0
IsBatchOf keys (Ok None) = keys ≡ []
IsBatchOf keys (Ok (Some b)) =
    (1 ≤ length keys) × (length keys ≤ MAX_FORGOTTEN) × (b ≡ forget_batch keys) × Writable b
IsBatchOf keys (Err (Check code)) =
    (1 ≤ length keys) × (is_within_limit (forget_batch keys) ≡ false) × (code ≡ MessageTooLarge)
IsBatchOf keys (Err OutOfMemory) = ⊤

-- the batch is appended, and it is said how many records it has; or it is refused, or memory lacks
abbrev pub AppendsCounted : State → BatchValue → Result ℤ Refused → State → Type 0
AppendsCounted s b (Ok count) after = (count ≡ pos (length b.recs)) × AppendsToGroups s b (Ok tt) after
AppendsCounted s b (Err refused) after = AppendsToGroups s b (Err refused) after

-- the group's keys were forgotten, so many; or a check of their batch fails, or memory lacks, and nothing changes
abbrev pub ForgetsKeys : State → (group : List ℕ) → Result ℤ Refused → State → Type 0
ForgetsKeys s group (Ok count) after =
    let keys = group_keys (group_content s) group in
    (first_some (forget_group_checks (group_content s) keys) ≡ None) × (count ≡ pos (length keys))
    × (after ≡ with_group_content s (forgotten (group_content s) keys))
ForgetsKeys s group (Err (Check code)) after =
    (first_some (forget_group_checks (group_content s) (group_keys (group_content s) group)) ≡ Some code) × (after ≡ s)
ForgetsKeys s group (Err OutOfMemory) after = after ≡ s

-- what is answered where so many were forgotten
abbrev pub forgotten_answer : (count : ℤ) → ForgetGroupAnswer
forgotten_answer count = record { code = no_error; count = count }
