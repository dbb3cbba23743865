use Rattle.sessions.specs.Steps.{Writes}
use Rattle.sessions.proofs.visiting.write_some.Given as goal

-- so much was sent so far, or nothing
abbrev pub invariant-loop : goal.invariant-loop
invariant-loop g l = Writes l.initial.may_write l.may_write l.initial.session l.session (g.W.Write.contents l.initial.to) (g.W.Write.contents l.to)
