use Rattle.cover_ranges.proofs.RunSets.{cut_canonical}
use Rattle.cover_ranges.proofs.laws.cut_canonical.Goals as goal

pub returns : goal.returns
returns c = cut_canonical
