use Rattle.broker_core.specs.SessionSteps.{Serves}
use Rattle.broker_core.proofs.session.serve.Given as goal

-- all that was read is answered, but for an incomplete frame, which is held
abbrev pub invariant-loop : goal.invariant-loop
invariant-loop g l = Serves l.initial.node l.node l.initial.source l.source l.initial.sink l.sink l.buffer.items l.frames l.counter
