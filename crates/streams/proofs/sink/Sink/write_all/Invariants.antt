use Rattle.std.proofs.Common.{◌≡◌, false, length}
use Rattle.streams.specs.State.{TakesAllBut}
use Rattle.streams.proofs.sink.Sink.write_all.Given as goal

-- the writer took all of the bytes but the rest, and no write failed
abbrev pub invariant-loop-rest : goal.invariant-loop-rest
invariant-loop-rest g l = (l.self.failed ≡ false) × TakesAllBut l.initial.self.taken l.self.taken l.rest l.bytes

abbrev pub decreases-loop-rest : goal.decreases-loop-rest
decreases-loop-rest g l = length l.rest
