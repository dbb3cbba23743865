use Rattle.std.proofs.Common.{rules}
use Rattle.streams.proofs.sink.Sink.flush.Goals as goal

pub returns-clause-tells_failure : goal.returns-clause-tells_failure
returns-clause-tells_failure c = search rules
