use Rattle.std.proofs.Common.{◌-◌, ◌≤◌, length}
use Rattle.std.specs.List.{AllWithin}
use Rattle.std.specs.Prelude.{◌<ℤ◌}
use Rattle.cover_ranges.proofs.search.index_after.Given as goal

abbrev pub invariant-loop-at : goal.invariant-loop-at
invariant-loop-at l = record { within : l.at ≤ length l.ranges; passed : AllWithin (λ run. run.1 <ℤ l.offset) l.ranges 0 l.at }

abbrev pub decreases-loop-at : goal.decreases-loop-at
decreases-loop-at l = length l.ranges - l.at
