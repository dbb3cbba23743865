use Rattle.side_by_side.proofs.KeptRange.{one_passed}
use Rattle.side_by_side.proofs.kept.KeptBatches.pass_batches.Goals as goal

pub loop-passed-preserved : goal.loop-passed-preserved
loop-passed-preserved g c = one_passed c.loop-passed._passed c.args.self.now c.loop-passed.self c.pass_batch.new.self c.loop-passed.invariant c.pass_batch.ensures
