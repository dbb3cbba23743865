use Rattle.kept_sessions.proofs.Barred.{raised}
use Rattle.kept_sessions.proofs.barrier.Barrier.raise.Goals as goal

pub returns-else-is_err-clause-bars_all : goal.returns-else-is_err-clause-bars_all
returns-else-is_err-clause-bars_all g c = raised c.args.state.now c.push_all-raised.result c.clear.new.self.items c.push_all-raised.new.places.items c.clear.ensures.items c.push_all-raised.ensures
