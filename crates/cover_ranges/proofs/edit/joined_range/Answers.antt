use Rattle.std.proofs.Common.{arith, get_or, ◌-◌}
use Rattle.std.specs.Prelude.{pos}
use Rattle.std.proofs.lemmas.Int.{ints, clamps}
use Rattle.cover_ranges.specs.Runs.{IsRun}
use Rattle.cover_ranges.proofs.edit.joined_range.Goals as goal

pub returns-clause-first : goal.returns-clause-first
returns-clause-first c = λ lt.
    let run : IsRun (get_or c.args.ranges.now c.args.start (pos 0, pos 0)) = c.requires.canonical.are_runs c.args.start (pos 0, pos 0) (omega arith) in
    omega (arith, ints, clamps)

pub returns-clause-last : goal.returns-clause-last
returns-clause-last c = λ lt.
    let run : IsRun (get_or c.args.ranges.now (c.args.end - 1) (pos 0, pos 0)) = c.requires.canonical.are_runs (c.args.end - 1) (pos 0, pos 0) (omega arith) in
    omega (arith, ints, clamps)
