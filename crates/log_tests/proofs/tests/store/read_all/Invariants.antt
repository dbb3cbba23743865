use Rattle.std.proofs.Common.{◌≡◌, take}
use Rattle.log_tests.proofs.tests.store.read_all.Given as goal

abbrev pub invariant-loop-i : goal.invariant-loop-i
invariant-loop-i g l = l.list.items ≡ take l.i (g.S.BatchStore.batches l.store)
