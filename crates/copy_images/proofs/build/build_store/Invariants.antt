use Rattle.std.proofs.Common.{length}
use Rattle.copy_images.proofs.Kept.{IsKept}
use Rattle.copy_images.proofs.build.build_store.Given as goal

abbrev pub invariant-loop-rest : goal.invariant-loop-rest
invariant-loop-rest g l = IsKept l.bytes (g.S.BatchStore.batches l.store) l.rest

abbrev pub decreases-loop-rest : goal.decreases-loop-rest
decreases-loop-rest g l = length l.rest
