use Rattle.std.proofs.Common.{rules}
use Rattle.streams.proofs.source.Source.reads.Goals as goal

pub returns : goal.returns
returns c = search rules
