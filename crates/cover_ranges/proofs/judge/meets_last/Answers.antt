use Rattle.std.proofs.Common.{w64, arith, get_or, ◌-◌}
use Rattle.std.specs.Prelude.{pos, ◌+ℤ◌}
use Rattle.std.proofs.lemmas.Int.{ints}
use mir.Val.{to_z, of_z}
use Rattle.cover_ranges.specs.Runs.{IsRun}
use Rattle.cover_ranges.proofs.Runs.{meets_says, earlier_run, le_same}
use Rattle.cover_ranges.proofs.judge.meets_last.Goals as goal

pub returns-then-at-gt0 : goal.returns-then-at-gt0
returns-then-at-gt0 c =
    let run : IsRun (get_or c.args.ranges.now (c.args.at - 1) (pos 0, pos 0)) = earlier_run c.args.ranges.now c.args.at (pos 0, pos 0) c.requires.earlier (omega arith) c.requires.is_there in
    meets_says c.args.ranges.now c.args.at c.args.first (pos 0, pos 0) _ c.requires.earlier (omega arith) c.requires.is_there
    (le_same (to_z w64 (of_z w64 c.args.first)) (to_z w64 (of_z w64 (to_z w64 (of_z w64 (get_or c.args.ranges.now (c.args.at - 1) (pos 0, pos 0)).1) +ℤ pos 1))) c.args.first ((get_or c.args.ranges.now (c.args.at - 1) (pos 0, pos 0)).1 +ℤ pos 1) (omega (arith, ints)) (omega (arith, ints)))
