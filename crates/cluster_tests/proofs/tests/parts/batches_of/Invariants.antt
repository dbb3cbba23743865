use Rattle.std.proofs.Common.{◌≡◌, take}
use Rattle.cluster_tests.proofs.tests.parts.batches_of.Given as goal

abbrev pub invariant-loop-i : goal.invariant-loop-i
invariant-loop-i g l = l.batches.items ≡ take l.i l.copy.kept
