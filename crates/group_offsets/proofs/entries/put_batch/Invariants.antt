use Rattle.std.proofs.Common.{◌≡◌, ◌++◌, map}
use Rattle.group_offsets.specs.Walks.{entry_value, entries_of}
use Rattle.group_offsets.proofs.entries.put_batch.Given as goal

-- the entries so far and those of the records that are left
abbrev pub invariant-loop-rec : goal.invariant-loop-rec
invariant-loop-rec g l =
    (goal.iterator-loop-rec g).can_next l.rec-iterator ×
    (goal.iterator-loop-rec g).is_finite l.rec-iterator ×
    (map entry_value l.entries.items ++ entries_of l.group l.rec-iterator ≡ map entry_value l.fn.entries.items ++ entries_of l.group l.batch.recs)
