use Rattle.std.proofs.Common.{◌+◌, length, pos}
use Rattle.deltas.specs.Deltas.{Delta}
use Rattle.side_by_side.specs.Telling.{IsTold}
use Rattle.side_by_side.proofs.JudgedSteps.{HasJudged}
use Rattle.side_by_side.proofs.judging.judge.Given as goal

abbrev pub invariant-loop-kept : goal.invariant-loop-kept
invariant-loop-kept g l =
    (e : Delta) → IsTold l.fn.start (g.T.Telling.tells l.fn.told) (g.V.Seen.has_seen l.fn.seen (pos 0)) e → HasJudged l.copy e l.kept (g.T.Telling.tells l.told) (g.V.Seen.has_seen l.seen)

abbrev pub decreases-loop-kept : goal.decreases-loop-kept
decreases-loop-kept g l = length l.kept + g.T.Telling.left l.told
