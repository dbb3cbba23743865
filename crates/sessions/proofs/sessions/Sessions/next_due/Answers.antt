use Rattle.std.proofs.Common.{subst}
use Rattle.sessions.specs.Orders.{World, NobodyIsDue}
use Rattle.sessions.proofs.Watched.{rests}
use Rattle.sessions.proofs.sessions.Sessions.next_due.Goals as goal

pub returns : goal.returns
returns g c = record {
  rests = λ clock before.
      let world : World = record { state = c.self.inside.node; sessions = c.self.inside.sessions.entries; next = c.self.inside.next } in
      let none = c.next_due.ensures clock before in
      subst (NobodyIsDue clock) c.self.view_is (rests clock world c.self.inside.waiting none.0 none.1 c.self.invariant.1);
}
