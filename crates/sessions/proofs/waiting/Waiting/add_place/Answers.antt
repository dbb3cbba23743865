use Rattle.std.proofs.Common.{refl}
use Rattle.sessions.specs.Joining.{as_it_was}
use Rattle.sessions.proofs.Joining.{joins_known, joins_then, placed_joins, same_joins, sleeps_placed, sleeps_known, sleeps_then}
use Rattle.sessions.proofs.Standers.{has_stood, placed_known, standers_known, standers_placed, standers_stay, standers_then}
use Rattle.sessions.proofs.waiting.Waiting.add_place.Goals as goal

pub returns-in_err-add_place-clause-joins : goal.returns-in_err-add_place-clause-joins
returns-in_err-add_place-clause-joins g c s due ends =
    same_joins s c.args.number due _ c.args.self.now _ c.self.view_is refl refl c.in_err-add_place.ensures.unchanged_on_error c.add_place.ensures.waits c.add_place.ensures.asleep

pub returns-clause-joins : goal.returns-clause-joins
returns-clause-joins g c s due ends =
    let first = placed_joins s c.args.number due _ c.args.self.now _ c.self.view_is c.args.place refl refl c.in_ok-add_place.ensures.adds c.add_place.ensures.waits c.add_place.ensures.asleep in
    joins_then s c.args.number due c.args.self.now _ c.know_place.new.self first (joins_known s c.args.number due c.args.place c.args.counted.now.end _ c.know_place.new.self c.know_place.ensures.knows ends)

pub returns-clause-sleeps : goal.returns-clause-sleeps
returns-clause-sleeps g c =
    sleeps_then c.know_place.result as_it_was c.args.number c.args.self.now _ c.know_place.new.self (sleeps_placed c.args.number _ c.args.self.now _ c.self.view_is c.args.place c.in_ok-add_place.ensures.sleeps)
    (sleeps_known c.args.number c.args.place c.args.counted.now.end _ c.know_place.new.self c.know_place.ensures.knows)

pub returns-then-stands_at-clause-placed : goal.returns-then-stands_at-clause-placed
returns-then-stands_at-clause-placed g c waits stand = has_stood c.args.number c.args.place c.args.self.now (c.stands_at.ensures.stands c.if-stands_at.true) stand

pub returns-in_err-add_place-clause-standers : goal.returns-in_err-add_place-clause-standers
returns-in_err-add_place-clause-standers g c = standers_stay c.args.number _ c.args.self.now _ c.self.view_is refl c.add_place.ensures.waits c.in_err-add_place.ensures.unchanged_on_error

pub returns-clause-standers : goal.returns-clause-standers
returns-clause-standers g c =
    standers_then c.args.number c.args.self.now _ c.know_place.new.self
    (standers_placed c.args.number _ c.args.self.now _ c.self.view_is refl c.add_place.ensures.waits c.args.place c.in_ok-add_place.ensures.adds)
    (standers_known c.args.number c.args.place c.args.counted.now.end _ c.know_place.new.self c.know_place.ensures.knows)

pub returns-clause-placed : goal.returns-clause-placed
returns-clause-placed g c = placed_known c.know_place.result c.args.number c.args.place c.args.counted.now.end _ c.args.self.now _ c.know_place.new.self c.self.view_is c.in_ok-add_place.ensures.adds c.know_place.ensures.knows
