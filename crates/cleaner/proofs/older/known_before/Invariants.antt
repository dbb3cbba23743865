use Rattle.std.proofs.Common.{length}
use Rattle.cleaner.specs.Older.{known_of, begins_below}
use Rattle.cleaner.proofs.InReach.{LatestOf}
use Rattle.cleaner.proofs.older.known_before.Given as goal

abbrev pub invariant-loop-batch : goal.invariant-loop-batch
invariant-loop-batch g l =
    g.S.BatchStore.stands l.batches l.cursor ×
    LatestOf l.older (known_of l.keys) (begins_below l.from) (g.S.BatchStore.batches l.batches) (g.S.BatchStore.left l.batches l.cursor)

abbrev pub decreases-loop-batch : goal.decreases-loop-batch
decreases-loop-batch g l = length (g.S.BatchStore.left l.batches l.cursor)
