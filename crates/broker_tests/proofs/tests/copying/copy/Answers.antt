use Rattle.broker_tests.proofs.Moving.{moved_more}
use Rattle.broker_tests.proofs.tests.copying.copy.Goals as goal

pub returns-then-not-branch-clause-moves : goal.returns-then-not-branch-clause-moves
returns-then-not-branch-clause-moves g c = moved_more _ _ _ _ _ _ c.loop.invariant.2 c.in_ok-copy_piece.ensures.moves

pub loop-preserved : goal.loop-preserved
loop-preserved g c = (
  c.in_ok-copy_piece.ensures.source_stays_fine,
  c.in_ok-copy_piece.ensures.sink_stays_fine,
  moved_more _ _ _ _ _ _ c.loop.invariant.2 c.in_ok-copy_piece.ensures.moves,
)
