use Rattle.std.specs.FinMap.{gets}
use Rattle.cover_ranges.specs.Runs.{with_range}
use Rattle.content.specs.ByOffset.{put}
use Rattle.content.specs.Table.{table_of}
use Rattle.content.proofs.examples.a_deleted_key_stays_deleted.Goals as goal

pub returns-clause-a_is_deleted : goal.returns-clause-a_is_deleted
unfolding put with_range table_of
returns-clause-a_is_deleted c = simp gets

pub returns-clause-b_is_2 : goal.returns-clause-b_is_2
unfolding put with_range table_of
returns-clause-b_is_2 c = simp gets
