use Rattle.std.proofs.Common.{drop}
use Rattle.std.specs.Prelude.{◌↔◌}
use Rattle.cover_ranges.proofs.RunsFrom.{RunsFrom}
use Rattle.copy_images.specs.Judging.{ranges_of}
use Rattle.copy_images.proofs.ranges.is_cover.Given as goal

abbrev pub invariant-loop-bytes : goal.invariant-loop-bytes
invariant-loop-bytes l = RunsFrom l.start (ranges_of l.ranges) ↔ RunsFrom l.least (drop l.bytes-index (ranges_of l.ranges))
