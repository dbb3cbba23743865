use Rattle.std.proofs.Common.{rules}
use Rattle.cover_ranges.proofs.set.Cover.first_gap.Goals as goal

pub returns-clause-missing : goal.returns-clause-missing
returns-clause-missing c = search rules
