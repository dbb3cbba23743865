use Rattle.std.proofs.Common.{rules}
use Rattle.cover_ranges.proofs.set.Cover.try_clone.Goals as goal

pub returns : goal.returns
returns c = search rules
