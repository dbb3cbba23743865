use Rattle.std.proofs.Common.{◌≡◌, ◌+◌, length}
use Rattle.deltas.specs.Deltas.{Delta}
use Rattle.side_by_side.specs.Telling.{IsTold}
use Rattle.side_by_side.proofs.PlannedSteps.{HasPlanned}
use Rattle.side_by_side.proofs.planning.make_plan.Given as goal

abbrev pub invariant-loop-alloc : goal.invariant-loop-alloc
invariant-loop-alloc g l =
    (e : Delta) → IsTold l.fn.start (g.T.Telling.tells l.fn.told) (λ runs. l.fn.seen.runs ≡ runs) e
    → HasPlanned l.copy e l.kept (g.T.Telling.tells l.told) l.plan.turns.items (g.S.BatchStore.batches l.plan.more)

abbrev pub decreases-loop-alloc : goal.decreases-loop-alloc
decreases-loop-alloc g l = length l.kept + g.T.Telling.left l.told
