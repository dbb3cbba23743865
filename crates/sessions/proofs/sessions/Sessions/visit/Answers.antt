use Rattle.std.proofs.Common.{◌≡◌, sym, ap, subst, refl, length, arith, ◌∙◌}
use Rattle.std.specs.Option.{is_some, option_copied_mut}
use Rattle.std.proofs.lemmas.Grind.{common_steps}
use Rattle.sessions.specs.Turns.{SessionState, WaitsFirst}
use Rattle.sessions.specs.Orders.{SessionsState, World}
use Rattle.sessions.specs.Waiting.{wait_at}
use Rattle.sessions.proofs.OneOrder.{differs, visited_in}
use Rattle.sessions.proofs.Watching.{unnamed_sleeps}
use Rattle.sessions.proofs.Watched.{others_told, some_same, told_named, watched_visited}
use Rattle.sessions.proofs.sessions.Sessions.visit.Goals as goal

pub returns-in-Some-clause-visits : goal.returns-in-Some-clause-visits
returns-in-Some-clause-visits g c =
    let found = ap option_copied_mut c.in-Some.is in
    let whole = ap length c.deref_mut.ensures.value ∙ c.self.invariant.0 in
    let written = (c.get_mut.follows.holds c.visit_session.new.session).3 (ap is_some (sym c.get_mut.ensures.value ∙ found)) in
    visited_in c.args.number c.args.clock _ _ _ c.args.seat.now c.visit_session.new.seat c.in-Some.session.now c.visit_session.new.session _ _ c.visit_session.result (ap (λ (b : SessionsState). b.world) c.self.view_is) (sym c.get_mut.ensures.value ∙ found) written.1 (λ k other. written.2 k (differs c.args.number k other)) refl
    (c.visit_session.ensures.visits whole)

pub invariant_of-self : goal.invariant_of-self
invariant_of-self g c =
    let found = ap option_copied_mut c.in-Some.is in
    let whole = ap length c.deref_mut.ensures.value ∙ c.self.invariant.0 in
    let written = (c.get_mut.follows.holds c.visit_session.new.session).3 (ap is_some (sym c.get_mut.ensures.value ∙ found)) in
    let old : World = record { state = c.self.inside.node; sessions = c.self.inside.sessions.entries; next = c.self.inside.next } in
    let new : World = record { state = c.visit_session.new.node; sessions = (c.get_mut.follows.lender c.visit_session.new.session).entries; next = c.self.inside.next } in (
      grind (arith, common_steps, whole),
      watched_visited c.args.number old new c.self.inside.waiting c.visit_session.new.waiting c.in-Some.session.now c.visit_session.new.session (sym c.get_mut.ensures.value ∙ found) written.1 refl
          (λ k other. written.2 k (differs c.args.number k other)) c.visit_session.ensures.others c.self.invariant.1 (c.visit_session.ensures.watches whole),
    )

pub returns-in-Some-clause-others_sleep : goal.returns-in-Some-clause-others_sleep
returns-in-Some-clause-others_sleep g c =
    let old : World = record { state = c.self.inside.node; sessions = c.self.inside.sessions.entries; next = c.self.inside.next } in
    let new : World = record { state = c.visit_session.new.node; sessions = (c.get_mut.follows.lender c.visit_session.new.session).entries; next = c.self.inside.next } in
    others_told c.args.number old new c.self.inside.waiting.waits c.visit_session.new.waiting.waits c.args.self.now c.self.view_is c.visit_session.ensures.others.named

pub returns-in-Some-clause-sleeps : goal.returns-in-Some-clause-sleeps
returns-in-Some-clause-sleeps g c = λ idle session most is first none.
    let found = ap option_copied_mut c.in-Some.is in
    let whole = ap length c.deref_mut.ensures.value ∙ c.self.invariant.0 in
    let written = (c.get_mut.follows.holds c.visit_session.new.session).3 (ap is_some (sym c.get_mut.ensures.value ∙ found)) in
    let same : session ≡ c.visit_session.new.session = some_same session c.visit_session.new.session (sym is ∙ written.1) in
    let new : World = record { state = c.visit_session.new.node; sessions = (c.get_mut.follows.lender c.visit_session.new.session).entries; next = c.self.inside.next } in
    told_named new c.visit_session.new.waiting.waits c.args.number
    ∙ unnamed_sleeps (wait_at c.visit_session.new.waiting.waits c.args.number)
    (c.visit_session.ensures.sleeps whole idle most (subst (λ (x : SessionState). WaitsFirst c.visit_session.new.node x.held most) same first) (ap (λ (x : SessionState). x.owed) (sym same) ∙ none))
