use Rattle.std.specs.FinMap.{gets}
use Rattle.cover_ranges.specs.Runs.{with_range}
use Rattle.content.specs.ByOffset.{put}
use Rattle.content.specs.Table.{table_of}
use Rattle.content.proofs.examples.deliveries.Goals as goal

pub returns-clause-b_is_3 : goal.returns-clause-b_is_3
unfolding put with_range table_of
returns-clause-b_is_3 c = simp gets
