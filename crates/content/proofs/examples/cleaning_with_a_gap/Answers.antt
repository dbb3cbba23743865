use Rattle.std.specs.FinMap.{gets}
use Rattle.cover_ranges.specs.Runs.{with_range}
use Rattle.content.specs.ByOffset.{put}
use Rattle.content.specs.Table.{table_of}
use Rattle.content.proofs.examples.cleaning_with_a_gap.Goals as goal

pub returns-clause-late_a_stays_deleted : goal.returns-clause-late_a_stays_deleted
unfolding put with_range table_of
returns-clause-late_a_stays_deleted c = simp gets
