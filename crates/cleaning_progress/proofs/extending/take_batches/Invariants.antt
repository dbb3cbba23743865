use Rattle.std.proofs.Common.{length}
use Rattle.newest_keys.specs.Shards.{newest_in}
use Rattle.cleaning_progress.specs.Extending.{HasTaken}
use Rattle.cleaning_progress.proofs.extending.take_batches.Given as goal

abbrev pub invariant-loop-cursor : goal.invariant-loop-cursor
invariant-loop-cursor g l =
    g.S.BatchStore.stands l.batches l.cursor ×
    HasTaken l.from l.end (newest_in l.fn.newest) (newest_in l.newest) (g.S.BatchStore.left l.batches l.cursor) (g.S.BatchStore.batches l.batches)

abbrev pub decreases-loop-cursor : goal.decreases-loop-cursor
decreases-loop-cursor g l = length (g.S.BatchStore.left l.batches l.cursor)
