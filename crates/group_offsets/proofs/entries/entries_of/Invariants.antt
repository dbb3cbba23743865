use Rattle.std.proofs.Common.{◌≡◌, ◌++◌, map, length}
use Rattle.content.specs.Records.{log_records}
use Rattle.group_offsets.specs.Walks.{entry_value, log_entries}
use Rattle.group_offsets.proofs.entries.entries_of.Given as goal

-- the entries so far and those of the batches that are left
abbrev pub invariant-loop-batch : goal.invariant-loop-batch
invariant-loop-batch g l = map entry_value l.entries.items ++ log_entries l.group (log_records l.walk) ≡ log_entries l.group (log_records l.log.kept)

abbrev pub decreases-loop-batch : goal.decreases-loop-batch
decreases-loop-batch g l = length l.walk
