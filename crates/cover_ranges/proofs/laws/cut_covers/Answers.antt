use Rattle.cover_ranges.proofs.RunSets.{cut_covers}
use Rattle.cover_ranges.proofs.laws.cut_covers.Goals as goal

pub returns : goal.returns
returns c = cut_covers
