use Rattle.std.specs.FinMap.{gets}
use Rattle.cover_ranges.specs.Runs.{with_range}
use Rattle.content.specs.ByOffset.{put}
use Rattle.content.specs.Table.{table_of}
use Rattle.deltas.specs.Patches.{patch}
use Rattle.deltas.proofs.examples.a_cleaned_sender.Goals as goal

pub returns-clause-b_is_2 : goal.returns-clause-b_is_2
unfolding put with_range table_of patch
returns-clause-b_is_2 c = simp gets
