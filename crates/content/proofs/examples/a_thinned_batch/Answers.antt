use Rattle.std.specs.FinMap.{gets}
use Rattle.cover_ranges.specs.Runs.{with_range}
use Rattle.content.specs.ByOffset.{put}
use Rattle.content.specs.Table.{table_of}
use Rattle.content.proofs.examples.a_thinned_batch.Goals as goal

pub returns-clause-a_is_2 : goal.returns-clause-a_is_2
unfolding put with_range table_of
returns-clause-a_is_2 c = simp gets
