use Rattle.std.proofs.Common.{◌≡◌, ◌++◌}
use Rattle.copy_deltas.proofs.Entries.{offset_bytes}
use Rattle.copy_deltas.proofs.write.put_offsets.Given as goal

-- the offsets so far and those of the records that are left
abbrev pub invariant-loop-rec : goal.invariant-loop-rec
invariant-loop-rec g l =
    (goal.iterator-loop-rec g).can_next l.rec-iterator ×
    (goal.iterator-loop-rec g).is_finite l.rec-iterator ×
    (l.out.items ++ offset_bytes l.batch l.rec-iterator ≡ l.fn.out.items ++ offset_bytes l.batch l.batch.recs)
