use Rattle.cover_ranges.proofs.RunSets.{union_covers}
use Rattle.cover_ranges.proofs.laws.union_covers.Goals as goal

pub returns : goal.returns
returns c = union_covers
