use Rattle.cover_ranges.proofs.RunSets.{range_covers}
use Rattle.cover_ranges.proofs.laws.range_covers.Goals as goal

pub returns : goal.returns
returns c = range_covers
