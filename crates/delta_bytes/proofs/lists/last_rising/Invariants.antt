use Rattle.delta_bytes.proofs.Rising.{RiseSoFar}
use Rattle.delta_bytes.proofs.lists.last_rising.Given as goal

abbrev pub invariant-loop-bytes : goal.invariant-loop-bytes
invariant-loop-bytes l = RiseSoFar l.before l.offsets l.bytes-index l.last
