use Rattle.sessions.proofs.Passed.{HasLooked}
use Rattle.sessions.proofs.waiting.Waiting.pass.Given as goal

-- so many were looked at
abbrev pub invariant-loop-index : goal.invariant-loop-index
invariant-loop-index g l = HasLooked l.fn.node l.fn.noted l.fn.self l.self l.index
