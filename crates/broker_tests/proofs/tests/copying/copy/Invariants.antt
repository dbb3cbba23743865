use Rattle.std.proofs.Common.{◌≡◌, false}
use Rattle.broker_tests.specs.Copies.{Moves}
use Rattle.broker_tests.proofs.tests.copying.copy.Given as goal

-- what left the reader went to the writer, and no call failed
abbrev pub invariant-loop : goal.invariant-loop
invariant-loop g l = (l.source.failed ≡ false) × (l.sink.failed ≡ false) × Moves l.initial.source.left l.source.left l.initial.sink.taken l.sink.taken
