use Rattle.std.proofs.Common.{rules}
use Rattle.cover_ranges.proofs.set.Cover.has_all.Goals as goal

pub returns : goal.returns
returns c = search rules
