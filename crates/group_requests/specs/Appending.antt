-- Appending a batch to the group partition, as the code goes. Words of private clauses.
use Rattle.std.specs.Prelude.{◌≡◌, Some, None, Result, Ok, Err}
use Rattle.std.specs.Option.{option_map}
use Rattle.batch_codec.specs.Values.{BatchValue}
use Rattle.answering.specs.declared.memory.Refused.{Refused}
use Rattle.answering.specs.declared.memory.Refused.TheVariants.{Check, OutOfMemory}
use Rattle.broker_state.specs.Codes.{append_code}
use Rattle.broker_state.specs.State.{State}
use Rattle.broker_state.specs.Batches.{append_fault, appended}
use Rattle.group_requests.specs.GroupPartition.{group_content, with_group_content}

-- the batch is appended; or it is refused, or memory lacks, and nothing changes
abbrev pub AppendsToGroups : State → BatchValue → Result (Unit {0}) Refused → State → Type 0
AppendsToGroups s b (Ok done) after =
    (append_fault (group_content s) b ≡ None)
    × (after ≡ with_group_content s (appended (group_content s) b).1)
AppendsToGroups s b (Err (Check code)) after =
    (option_map append_code (append_fault (group_content s) b) ≡ Some code) × (after ≡ s)
AppendsToGroups s b (Err OutOfMemory) after = after ≡ s
