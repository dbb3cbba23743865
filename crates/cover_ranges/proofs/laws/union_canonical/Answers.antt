use Rattle.cover_ranges.proofs.RunSets.{union_canonical}
use Rattle.cover_ranges.proofs.laws.union_canonical.Goals as goal

pub returns : goal.returns
returns c = union_canonical
