use Rattle.std.proofs.Common.{◌≡◌, ◌-◌, ◌≤◌}
use Rattle.std.specs.Prelude.{max}
use Rattle.fetch_waits.proofs.Runs.{size}
use Rattle.fetch_waits.proofs.counts.count_run.Given as goal

-- the bytes before the start were counted
abbrev pub invariant-loop-start : goal.invariant-loop-start
invariant-loop-start g l =
    (l.bytes ≡ size l.fn.copy.kept l.fn.run.start l.start) × (l.fn.run.start ≤ l.start) × (l.start ≤ max l.fn.run.start l.fn.run.end)

abbrev pub decreases-loop-start : goal.decreases-loop-start
decreases-loop-start g l = l.fn.run.end - l.start
