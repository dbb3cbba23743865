use Rattle.sessions.proofs.Sharing.{Growing}
use Rattle.sessions.proofs.waiting.grow_all.Given as goal

abbrev pub invariant-loop-number : goal.invariant-loop-number
invariant-loop-number g l = Growing l.fn.stand l.fn.growth l.fn.waits l.waits l.number-iterator
