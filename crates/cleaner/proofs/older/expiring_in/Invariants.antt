use Rattle.std.proofs.Common.{length, drop}
use Rattle.content.specs.Cleaning.{is_cleanable}
use Rattle.cleaner.specs.Later.{outdated_of}
use Rattle.cleaner.specs.Older.{expiring_of}
use Rattle.cleaner.proofs.InReach.{LatestOf}
use Rattle.cleaner.proofs.older.expiring_in.Given as goal

abbrev pub invariant-loop-batch : goal.invariant-loop-batch
invariant-loop-batch g l =
    g.S.BatchStore.stands l.batches l.cursor ×
    LatestOf l.expiring (expiring_of (outdated_of l.later) l.bound) (is_cleanable l.upto) (drop l.first (g.S.BatchStore.batches l.batches)) (g.S.BatchStore.left l.batches l.cursor)

abbrev pub decreases-loop-batch : goal.decreases-loop-batch
decreases-loop-batch g l = length (g.S.BatchStore.left l.batches l.cursor)
