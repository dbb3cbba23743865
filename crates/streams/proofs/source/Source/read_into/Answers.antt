use Rattle.std.proofs.Common.{rules}
use Rattle.streams.proofs.source.Source.read_into.Goals as goal

pub returns-clause-none_only_at_end : goal.returns-clause-none_only_at_end
returns-clause-none_only_at_end c = search rules
