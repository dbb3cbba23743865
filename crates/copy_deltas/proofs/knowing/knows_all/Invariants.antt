use Rattle.copy_deltas.proofs.Known.{AreKnownFrom}
use Rattle.copy_deltas.proofs.knowing.knows_all.Given as goal

abbrev pub invariant-loop-bytes : goal.invariant-loop-bytes
invariant-loop-bytes g l = AreKnownFrom l.copy l.asked l.bytes-index
