use Rattle.std.proofs.Common.{rules}
use Rattle.streams.proofs.source.Source.failed.Goals as goal

pub returns : goal.returns
returns c = search rules
