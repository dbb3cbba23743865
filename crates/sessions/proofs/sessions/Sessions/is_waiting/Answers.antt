use Rattle.std.proofs.Common.{ap, sym, ◌∙◌}
use Rattle.sessions.specs.Orders.{SessionsState, World, is_waiting}
use Rattle.sessions.proofs.Watched.{waits_told}
use Rattle.sessions.proofs.sessions.Sessions.is_waiting.Goals as goal

pub returns : goal.returns
returns g c =
    let world : World = record { state = c.self.inside.node; sessions = c.self.inside.sessions.entries; next = c.self.inside.next } in
    c.waits.ensures ∙ sym (waits_told world c.self.inside.waiting.waits c.args.number) ∙ ap (λ (b : SessionsState). is_waiting b c.args.number) c.self.view_is
