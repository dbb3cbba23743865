use Rattle.cover_ranges.proofs.RunEnds.{gap_before, gap_after, below_end}
use Rattle.cover_ranges.proofs.laws.run_ends.Goals as goal

pub returns-clause-gap_before : goal.returns-clause-gap_before
returns-clause-gap_before c = gap_before

pub returns-clause-gap_after : goal.returns-clause-gap_after
returns-clause-gap_after c = gap_after

pub returns-clause-below_end : goal.returns-clause-below_end
returns-clause-below_end c = below_end
