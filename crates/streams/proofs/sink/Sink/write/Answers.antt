use Rattle.std.proofs.Common.{rules}
use Rattle.streams.proofs.sink.Sink.write.Goals as goal

pub returns-clause-takes_some : goal.returns-clause-takes_some
returns-clause-takes_some c = search rules
