use Rattle.std.proofs.Common.{ℕ, refl, subst, sym}
use Rattle.std.specs.Prelude.{OnOk}
use Rattle.broker_state.specs.State.{State}
use Rattle.sessions.specs.declared.waits.PartitionKey.{PartitionKey}
use Rattle.sessions.specs.Waiting.{with_entry}
use Rattle.sessions.specs.Joining.{EndsAt, PutsAt}
use Rattle.sessions.proofs.Joining.{joins_then, puts_counted, same_after, sleeps_same, sleeps_taken, sleeps_then, taken_joins}
use Rattle.sessions.proofs.Standers.{standers_counted, standers_taken, standers_then}
use Rattle.sessions.proofs.waiting.Waiting.add_counted.Goals as goal

pub returns-in_err-add_place-clause-joins : goal.returns-in_err-add_place-clause-joins
returns-in_err-add_place-clause-joins g c s due ends =
    let first = taken_joins s c.args.number due _ c.args.self.now _ c.self.view_is c.args.counted.now.bytes c.args.entry c.args.counted.now.room refl refl c.take_off.ensures.takes c.take_off.ensures.waits c.take_off.ensures.asleep in
    let ends = subst (λ (key : PartitionKey). EndsAt s key c.args.counted.now.end) (sym c.of-place.ensures) ends in
    joins_then s c.args.number due c.args.self.now _ c.add_place.new.self first (c.add_place.ensures.joins s due ends)

pub returns-clause-joins : goal.returns-clause-joins
returns-clause-joins g c s due ends =
    let first = taken_joins s c.args.number due _ c.args.self.now _ c.self.view_is c.args.counted.now.bytes c.args.entry c.args.counted.now.room refl refl c.take_off.ensures.takes c.take_off.ensures.waits c.take_off.ensures.asleep in
    let ends = subst (λ (key : PartitionKey). EndsAt s key c.args.counted.now.end) (sym c.of-place.ensures) ends in
    let second = joins_then s c.args.number due c.args.self.now _ c.add_place.new.self first (c.add_place.ensures.joins s due ends) in
    joins_then s c.args.number due c.args.self.now c.add_place.new.self c.put_at.new.self second (c.put_at.ensures.joins s due)

pub returns-clause-sleeps : goal.returns-clause-sleeps
returns-clause-sleeps g c =
    let by = with_entry c.args.counted.now.bytes c.args.counted.now.room c.args.entry in
    let first = sleeps_taken c.args.number _ c.args.self.now _ c.self.view_is c.args.counted.now.bytes c.args.entry c.args.counted.now.room c.take_off.ensures.sleeps in
    sleeps_then c.put_at.result by c.args.number c.args.self.now c.add_place.new.self c.put_at.new.self (same_after by c.args.number c.args.self.now _ c.add_place.new.self first c.in_ok-add_place.ensures.sleeps)
    (sleeps_same c.args.number c.add_place.new.self c.put_at.new.self c.put_at.ensures.waits)

pub returns-clause-puts : goal.returns-clause-puts
returns-clause-puts g c =
    let joins = λ (s : State) (due : ℕ × ℕ) (ends : EndsAt s c.of-place.result c.args.counted.now.end).
    joins_then s c.args.number due c.args.self.now _ c.add_place.new.self
    (taken_joins s c.args.number due _ c.args.self.now _ c.self.view_is c.args.counted.now.bytes c.args.entry c.args.counted.now.room refl refl c.take_off.ensures.takes c.take_off.ensures.waits c.take_off.ensures.asleep)
    (c.add_place.ensures.joins s due ends) in
    subst (λ (key : PartitionKey). OnOk c.put_at.result ((s : State) → EndsAt s key c.args.counted.now.end → PutsAt c.args.number key c.args.counted.now.room c.args.entry c.args.self.now c.put_at.new.self)) c.of-place.ensures
    (puts_counted c.put_at.result c.args.number c.of-place.result c.args.counted.now.end c.args.counted.now.room c.args.entry c.args.self.now c.add_place.new.self c.put_at.new.self joins c.in_ok-add_place.ensures.is_there c.put_at.ensures.puts)

pub returns-in_err-add_place-clause-standers : goal.returns-in_err-add_place-clause-standers
returns-in_err-add_place-clause-standers g c =
    let first = standers_taken c.args.number _ c.args.self.now _ c.self.view_is refl c.take_off.ensures.waits c.args.counted.now.bytes c.args.entry c.args.counted.now.room c.take_off.ensures.takes in
    standers_then c.args.number c.args.self.now _ c.add_place.new.self first c.add_place.ensures.standers

pub returns-clause-standers : goal.returns-clause-standers
returns-clause-standers g c =
    let first = standers_taken c.args.number _ c.args.self.now _ c.self.view_is refl c.take_off.ensures.waits c.args.counted.now.bytes c.args.entry c.args.counted.now.room c.take_off.ensures.takes in
    standers_counted c.args.number c.of-place.result c.args.self.now _ c.add_place.new.self c.put_at.new.self first c.add_place.ensures.standers c.in_ok-add_place.ensures.placed c.put_at.ensures.waits c.put_at.ensures.standers
