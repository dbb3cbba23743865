use Rattle.std.proofs.Common.{take}
use Rattle.cover_ranges.specs.Runs.{IsCanonical}
use Rattle.cover_ranges.proofs.judge.judge.Given as goal

abbrev pub invariant-loop-at : goal.invariant-loop-at
invariant-loop-at l = IsCanonical (take l.at l.ranges)
