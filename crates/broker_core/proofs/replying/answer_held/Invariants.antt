use Rattle.std.proofs.Common.{length}
use Rattle.broker_core.specs.SessionSteps.{AnswersFront}
use Rattle.broker_core.proofs.replying.answer_held.Given as goal

-- the frames so far are answered, and the others are held
abbrev pub invariant-loop-index : goal.invariant-loop-index
invariant-loop-index g l = AnswersFront l.initial.node l.node l.initial.sink l.sink l.initial.buffer.items l.buffer.items l.first l.index

abbrev pub decreases-loop-index : goal.decreases-loop-index
decreases-loop-index g l = length l.buffer.items
