use Rattle.cover_ranges.proofs.RunEnds.{has_all_is}
use Rattle.cover_ranges.proofs.laws.has_all_is.Goals as goal

pub returns : goal.returns
returns c = has_all_is
