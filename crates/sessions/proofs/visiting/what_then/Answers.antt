use Rattle.std.proofs.Common.{subst}
use Rattle.sessions.specs.declared.visiting.TheConstants.{MOST_OWED}
use Rattle.sessions.specs.Visits.{has_ended}
use Rattle.sessions.specs.Steps.{StopsTurn}
use Rattle.sessions.proofs.Going.{waits_idle}
use Rattle.sessions.proofs.visiting.what_then.Goals as goal

pub returns-in-Short-clause-goes_on : goal.returns-in-Short-clause-goes_on
returns-in-Short-clause-goes_on g c = λ at es stopped.
    c.after_short.ensures.goes_on at es (subst (StopsTurn MOST_OWED at.clock (has_ended c.args.seat.now) at.state es c.args.session.now) c.in-Short.is stopped)

pub returns-in-Over-clause-goes_on : goal.returns-in-Over-clause-goes_on
returns-in-Over-clause-goes_on g c = λ at es stopped.
    c.after_stop.ensures.goes_on at c.args.seat.now es (subst (StopsTurn MOST_OWED at.clock (has_ended c.args.seat.now) at.state es c.args.session.now) c.in-Over.is stopped)

pub returns-in-Waits-clause-goes_on : goal.returns-in-Waits-clause-goes_on
returns-in-Waits-clause-goes_on g c = λ at es stopped.
    waits_idle at c.args.seat.now c.args.session.now (subst (StopsTurn MOST_OWED at.clock (has_ended c.args.seat.now) at.state es c.args.session.now) c.in-Waits.is stopped)
