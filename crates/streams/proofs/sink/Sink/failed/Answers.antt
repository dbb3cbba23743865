use Rattle.std.proofs.Common.{rules}
use Rattle.streams.proofs.sink.Sink.failed.Goals as goal

pub returns : goal.returns
returns c = search rules
