use Rattle.cover_ranges.proofs.Runs.{IsSubsetSoFar}
use Rattle.cover_ranges.proofs.search.is_subset.Given as goal

abbrev pub invariant-loop-range : goal.invariant-loop-range
invariant-loop-range l = IsSubsetSoFar l.inner l.outer l.range-index l.at
