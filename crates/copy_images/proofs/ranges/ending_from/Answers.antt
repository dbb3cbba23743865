use Rattle.std.proofs.Common.{◌≡◌, ◌+◌, ℕ, sym, ◌∙◌, ap, subst, drop, rules, arith}
use Rattle.std.specs.Prelude.{ℤ, FitsSigned, ◌≤ℤ◌, ◌<ℤ◌}
use Rattle.std.specs.Int.{w64}
use Rattle.std.proofs.lemmas.Int.{ints, to_z-of_z}
use Rattle.std.proofs.lemmas.List.{take_rest}
use Rattle.copy_images.specs.Judging.{ranges_of, ending_from}
use Rattle.copy_images.proofs.Runs.{Parts, passed_over, stopped_at, ending_none, ranges-drop}
use Rattle.copy_images.proofs.ranges.ending_from.Goals as goal

abbrev EndsLikewise : Parts → ℕ → ℤ → Type 0
EndsLikewise parts i offset = ending_from offset (drop i (ranges_of parts)) ≡ ending_from offset (ranges_of parts)

pub returns-then-offset-last : goal.returns-then-offset-last
returns-then-offset-last c =
    let f : FitsSigned w64 c.range_at-last.result.1 = search rules in
    let le : c.args.offset ≤ℤ c.range_at-last.result.1 = grind (arith, ints, c.if-offset-last.true) in
    let so_far = subst (EndsLikewise c.args.ranges.now c.loop-at.at) (to_z-of_z w64 c.args.offset c.ranges.offset) c.loop-at.invariant in
    ap ranges_of (take_rest c.args.ranges.now c.loop-at.at) ∙ ranges-drop c.args.ranges.now c.loop-at.at
    ∙ sym (stopped_at c.args.ranges.now c.loop-at.at c.args.offset c.range_at-last.result c.loop-at-test.true c.range_at-last.ensures le) ∙ so_far

pub returns : goal.returns
returns c =
    let so_far = subst (EndsLikewise c.args.ranges.now c.loop-at.at) (to_z-of_z w64 c.args.offset c.ranges.offset) c.loop-at.invariant in
    sym (ending_none c.args.ranges.now c.loop-at.at c.args.offset c.loop-at-test.false) ∙ so_far

pub loop-at-preserved : goal.loop-at-preserved
loop-at-preserved c =
    let f : FitsSigned w64 c.range_at-last.result.1 = search rules in
    let less : c.range_at-last.result.1 <ℤ c.args.offset = grind (arith, ints, c.if-offset-last.false) in
    let same = to_z-of_z w64 c.args.offset c.ranges.offset in
    let so_far = subst (EndsLikewise c.args.ranges.now c.loop-at.at) same c.loop-at.invariant in
    subst (EndsLikewise c.args.ranges.now (c.loop-at.at + 1)) (sym same) (sym (passed_over c.args.ranges.now c.loop-at.at c.args.offset c.range_at-last.result c.loop-at-test.true c.range_at-last.ensures less) ∙ so_far)
