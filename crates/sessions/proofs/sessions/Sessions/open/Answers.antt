use Rattle.std.proofs.Common.{rules}
use Rattle.sessions.specs.Orders.{World, IsOpened}
use Rattle.sessions.specs.Orders.Event.{Opens}
use Rattle.sessions.proofs.OneOrder.{goes_on}
use Rattle.sessions.proofs.sessions.Sessions.open.Goals as goal

pub returns-clause-goes_on : goal.returns-clause-goes_on
returns-clause-goes_on g c =
    let now : World = record { state = c.self.inside.node; sessions = c.insert.new.self.entries; next = c.in-Some.next } in
    let step : IsOpened c.self.inside.next c.args.self.now.world now = search rules in
    goes_on (Opens c.self.inside.next) c.args.self.now.world now step
