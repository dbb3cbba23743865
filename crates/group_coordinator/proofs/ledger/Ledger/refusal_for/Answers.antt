use Rattle.std.proofs.Common.{rules}
use Rattle.group_coordinator.proofs.Readiness.{refusal_at, refusal_none}
use Rattle.group_coordinator.proofs.ledger.Ledger.refusal_for.Goals as goal

pub returns-in-Some : goal.returns-in-Some
returns-in-Some g c = refusal_at c.args.session c.args.self.now.refusals c.in-Some.index c.index.result.now (search rules) (search rules)

pub returns-in-None : goal.returns-in-None
returns-in-None g c = refusal_none c.args.session c.args.self.now.refusals (search rules)
