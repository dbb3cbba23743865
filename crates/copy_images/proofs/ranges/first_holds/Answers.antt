use Rattle.std.proofs.Common.{rules, arith, ◌≡◌, ◌&&◌}
use Rattle.std.specs.Prelude.{FitsSigned, int_le}
use Rattle.std.specs.Int.{w64}
use Rattle.std.proofs.lemmas.Int.{ints}
use Rattle.copy_images.specs.Judging.{ranges_of, first_holds}
use Rattle.copy_images.proofs.Runs.{held_by_first}
use Rattle.copy_images.proofs.ranges.first_holds.Goals as goal

pub returns-then-start-first : goal.returns-then-start-first
returns-then-start-first c =
    let range = c.range_at-start.result in
    let f : FitsSigned w64 range.0 = search rules in
    let l : FitsSigned w64 range.1 = search rules in
    let e : first_holds c.args.first c.args.last (ranges_of c.args.ranges.now) ≡ (int_le range.0 c.args.first && int_le c.args.last range.1) = held_by_first c.args.ranges.now c.args.first c.args.last range (search rules) (search rules) in
    grind (arith, ints, e, c.if-start-first.true)
