use Rattle.std.proofs.Common.{◌≡◌, rules}
use Rattle.sessions.proofs.DueTimes.{none_over, none_at_all}
use Rattle.sessions.proofs.waiting.Waiting.has_due.Goals as goal

pub returns-in-Some : goal.returns-in-Some
returns-in-Some g c =
    let same : c.from.result ≡ c.args.clock = search rules in
    none_over c.in-Some.due c.args.clock c.from.result c.args.self.now.times same c.in-Some.ensures

pub returns-in-None : goal.returns-in-None
returns-in-None g c later = none_at_all c.args.clock c.args.self.now.times c.in-None.ensures
