use Rattle.std.proofs.Common.{sym, ap, subst, refl, ◌∙◌}
use Rattle.std.specs.Option.{is_some, option_copied_mut}
use Rattle.sessions.specs.Orders.{SessionsState, World, SendsAt}
use Rattle.sessions.proofs.OneOrder.{differs}
use Rattle.sessions.proofs.Sending.{sent_in}
use Rattle.sessions.proofs.Watched.{watched_sent}
use Rattle.sessions.proofs.sessions.Sessions.send.Goals as goal

pub returns-clause-sends : goal.returns-clause-sends
returns-clause-sends g c =
    let found = ap option_copied_mut c.in-Some.is in
    let written = (c.get_mut.follows.holds c.send_session.new.session).3 (ap is_some (sym c.get_mut.ensures.value ∙ found)) in
    let old : World = record { state = c.self.inside.node; sessions = c.self.inside.sessions.entries; next = c.self.inside.next } in
    let new : World = record { state = c.self.inside.node; sessions = (c.get_mut.follows.lender c.send_session.new.session).entries; next = c.self.inside.next } in
    subst (λ (w : World). SendsAt c.args.number c.args.seat.now w c.send_session.new.seat new (g.W.Write.contents c.args.to.now) (g.W.Write.contents c.send_session.new.to) c.send_session.result) (ap (λ (b : SessionsState). b.world) c.self.view_is)
    (sent_in c.args.number c.args.seat.now c.send_session.new.seat old new c.in-Some.session.now c.send_session.new.session (g.W.Write.contents c.args.to.now) (g.W.Write.contents c.send_session.new.to) c.send_session.result (sym c.get_mut.ensures.value ∙ found) written.1
    (refl, λ k other. written.2 k (differs c.args.number k other)) refl c.send_session.ensures)

pub invariant_of-self-2 : goal.invariant_of-self-2
invariant_of-self-2 g c =
    let found = ap option_copied_mut c.in-Some.is in
    let written = (c.get_mut.follows.holds c.send_session.new.session).3 (ap is_some (sym c.get_mut.ensures.value ∙ found)) in
    let old : World = record { state = c.self.inside.node; sessions = c.self.inside.sessions.entries; next = c.self.inside.next } in
    let new : World = record { state = c.self.inside.node; sessions = (c.get_mut.follows.lender c.send_session.new.session).entries; next = c.self.inside.next } in (
      c.self.invariant.0,
      watched_sent c.args.number old new c.self.inside.waiting c.in-Some.session.now c.send_session.new.session (sym c.get_mut.ensures.value ∙ found) written.1 refl refl
          (λ k other. written.2 k (differs c.args.number k other)) c.send_session.ensures.stays c.self.invariant.1,
    )
