use Rattle.std.proofs.Common.{◌≡◌, drop}
use Rattle.side_by_side.proofs.kept.KeptBatches.pass_batches.Given as goal

abbrev pub invariant-loop-passed : goal.invariant-loop-passed
invariant-loop-passed g l = l.self ≡ drop l._passed l.fn.self
