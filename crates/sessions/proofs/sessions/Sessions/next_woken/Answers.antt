use Rattle.std.proofs.Common.{◌≡◌, Some, subst}
use Rattle.std.specs.Prelude.{IfSome}
use Rattle.sessions.specs.Orders.{World}
use Rattle.sessions.specs.Waiting.{WaitState, asleep_at}
use Rattle.sessions.proofs.Watched.{names_none, names_one, nobody_told, slept_told, watched_named}
use Rattle.sessions.proofs.sessions.Sessions.next_woken.Goals as goal

pub invariant_of-self : goal.invariant_of-self
invariant_of-self g c =
    let world : World = record { state = c.self.inside.node; sessions = c.self.inside.sessions.entries; next = c.self.inside.next } in (
      c.self.invariant.0,
      watched_named world c.self.inside.waiting c.next_woken.new.self
          (λ k wait is. subst (λ o. IfSome o (λ (x : WaitState). asleep_at c.self.inside.waiting.waits k ≡ Some x)) is (c.next_woken.ensures.slept k))
          c.next_woken.ensures.still_none c.next_woken.ensures.wait_on c.self.invariant.1,
    )

pub returns-clause-names : goal.returns-clause-names
returns-clause-names g c =
    let world : World = record { state = c.self.inside.node; sessions = c.self.inside.sessions.entries; next = c.self.inside.next } in
    names_one world c.self.inside.waiting.waits c.next_woken.new.self.waits c.args.self.now c.self.view_is c.next_woken.result c.next_woken.ensures.names c.next_woken.ensures.waits

pub returns-clause-sleeps_on : goal.returns-clause-sleeps_on
returns-clause-sleeps_on g c =
    let world : World = record { state = c.self.inside.node; sessions = c.self.inside.sessions.entries; next = c.self.inside.next } in
    names_none world c.self.inside.waiting.waits c.next_woken.new.self.waits c.args.self.now c.self.view_is c.next_woken.result c.next_woken.ensures.waits

pub returns-clause-nobody_is_due : goal.returns-clause-nobody_is_due
returns-clause-nobody_is_due g c =
    let world : World = record { state = c.self.inside.node; sessions = c.self.inside.sessions.entries; next = c.self.inside.next } in
    nobody_told c.args.clock world c.next_woken.new.self c.next_woken.result c.next_woken.ensures.none_is_woken c.next_woken.ensures.none_is_due (invariant_of-self g c).1

pub returns-clause-slept : goal.returns-clause-slept
returns-clause-slept g c =
    let world : World = record { state = c.self.inside.node; sessions = c.self.inside.sessions.entries; next = c.self.inside.next } in
    slept_told world c.self.inside.waiting.waits c.args.self.now c.self.view_is c.next_woken.result c.next_woken.ensures.was_unnamed
