use Rattle.std.proofs.Common.{ap, refl, rules}
use Rattle.std.specs.Option.{option_map}
use Rattle.sessions.specs.Orders.{World, IsClosed}
use Rattle.sessions.specs.Orders.Event.{Closes}
use Rattle.sessions.specs.Waiting.{WaitState}
use Rattle.sessions.proofs.OneOrder.{goes_on}
use Rattle.sessions.proofs.Watched.{none_told, others_told, watched_closed}
use Rattle.sessions.proofs.sessions.Sessions.close.Goals as goal

pub returns-clause-goes_on : goal.returns-clause-goes_on
returns-clause-goes_on g c = λ is.
    let now : World = record { state = c.self.inside.node; sessions = c.swap_remove.new.self.entries; next = c.self.inside.next } in
    let step : IsClosed c.args.number c.args.self.now.world now = search rules in
    goes_on (Closes c.args.number) c.args.self.now.world now step

pub invariant_of-self-2 : goal.invariant_of-self-2
invariant_of-self-2 g c =
    let old : World = record { state = c.self.inside.node; sessions = c.self.inside.sessions.entries; next = c.self.inside.next } in
    let now : World = record { state = c.self.inside.node; sessions = c.swap_remove.new.self.entries; next = c.self.inside.next } in
    let step : IsClosed c.args.number old now = search rules in (
      c.self.invariant.0,
      watched_closed c.args.number old now c.self.inside.waiting c.leave.new.self refl refl step.is step.only.1 c.leave.ensures.waits_no_more c.leave.ensures.others c.leave.ensures.asleep c.leave.ensures.wait_on c.self.invariant.1,
    )

pub returns-clause-sleeps_no_more : goal.returns-clause-sleeps_no_more
returns-clause-sleeps_no_more g c = λ is.
    let now : World = record { state = c.self.inside.node; sessions = c.swap_remove.new.self.entries; next = c.self.inside.next } in
    none_told now c.leave.new.self.waits c.args.number c.leave.ensures.waits_no_more

pub returns-clause-others_sleep : goal.returns-clause-others_sleep
returns-clause-others_sleep g c =
    let old : World = record { state = c.self.inside.node; sessions = c.self.inside.sessions.entries; next = c.self.inside.next } in
    let now : World = record { state = c.self.inside.node; sessions = c.swap_remove.new.self.entries; next = c.self.inside.next } in
    others_told c.args.number old now c.self.inside.waiting.waits c.leave.new.self.waits c.args.self.now c.self.view_is (λ k other. ap (option_map (λ (w : WaitState). w.is_named)) (c.leave.ensures.others k other))
