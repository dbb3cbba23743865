use Rattle.cover_ranges.proofs.RunSets.{range_canonical}
use Rattle.cover_ranges.proofs.laws.range_canonical.Goals as goal

pub returns : goal.returns
returns c = range_canonical
