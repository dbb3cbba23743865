use Rattle.std.proofs.Common.{ap, ◌∙◌}
use Rattle.sessions.specs.Orders.{SessionsState, World, is_waiting}
use Rattle.sessions.proofs.Watched.{waits_not}
use Rattle.sessions.proofs.sessions.Sessions.awaited.Goals as goal

pub returns : goal.returns
returns g c = λ isnt.
    let world : World = record { state = c.self.inside.node; sessions = c.self.inside.sessions.entries; next = c.self.inside.next } in
    c.places.ensures (waits_not world c.self.inside.waiting.waits c.args.number (ap (λ (b : SessionsState). is_waiting b c.args.number) c.self.view_is ∙ isnt))
