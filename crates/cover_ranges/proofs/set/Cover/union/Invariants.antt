use Rattle.std.proofs.Common.{◌≡◌, ◌≤◌, ◌+◌, ◌-◌, take, length, ◌||◌}
use Rattle.std.specs.Prelude.{ℤ}
use Rattle.cover_ranges.specs.Runs.{covers, IsCanonical}
use Rattle.cover_ranges.proofs.set.Cover.union.Given as goal

abbrev pub invariant-loop-i : goal.invariant-loop-i
invariant-loop-i g l = record {
  mine : l.i ≤ length l.mine;
  theirs : l.j ≤ length l.theirs;
  both : (o : ℤ) → covers l.both.runs o ≡ (covers (take l.i l.mine) o || covers (take l.j l.theirs) o);
  canonical : IsCanonical l.both.runs;
}

abbrev pub decreases-loop-i : goal.decreases-loop-i
decreases-loop-i g l = (length l.mine - l.i) + (length l.theirs - l.j)
