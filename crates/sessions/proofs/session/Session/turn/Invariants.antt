use Rattle.std.proofs.Common.{length}
use Rattle.sessions.proofs.Turning.{Turning}
use Rattle.sessions.proofs.Watching.{Watching}
use Rattle.sessions.proofs.session.Session.turn.Given as goal

-- the frames so far are answered, and were handled so; who slept and waited on does so
abbrev pub invariant-loop-now : goal.invariant-loop-now
invariant-loop-now g l =
    Turning l.most_owed l.now.clock l.now.has_ended l.initial.node l.initial.self l.node l.self
    × g.H.Handler.keeps l.initial.handler l.initial.node l.handler l.node
    × Watching l.now.number l.initial.node l.initial.waiting l.initial.self l.node l.waiting l.self

abbrev pub decreases-loop-now : goal.decreases-loop-now
decreases-loop-now g l = length l.self.held
