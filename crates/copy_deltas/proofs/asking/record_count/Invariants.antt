use Rattle.std.proofs.Common.{◌≡◌, ◌+◌, ◌≤◌, length}
use Rattle.std.specs.Prelude.{min}
use Rattle.copy_deltas.proofs.Entries.{most}
use Rattle.copy_deltas.proofs.asking.record_count.Given as goal

-- those counted and those that are left
abbrev pub invariant-loop : goal.invariant-loop
invariant-loop l =
    (goal.iterator-loop).can_next l.iterator' ×
    (goal.iterator-loop).is_finite l.iterator' ×
    (l.count ≤ most) ×
    (min (l.count + length l.iterator') most ≡ min (length l.batch.recs) most)
