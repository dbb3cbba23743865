use Rattle.std.proofs.Common.{◌+◌, ◌∙◌, false, subst, sym, rules}
use Rattle.std.specs.Prelude.{FitsSigned, IsTrue}
use Rattle.std.specs.Int.{w64}
use Rattle.cover_ranges.specs.Runs.{Runs}
use Rattle.copy_images.specs.Judging.{ranges_of}
use Rattle.delta_bytes.proofs.Covered.{CoveredSoFar, left_is, span_says, none_covered, one_covered, one_missing}
use Rattle.delta_bytes.proofs.seen.covers_each.Goals as goal

pub loop-bytes-init : goal.loop-bytes-init
loop-bytes-init c = none_covered (ranges_of c.args.ranges.now) c.args.offsets.now c.requires.canonical c.requires.rising

pub returns-then-not-first_holds : goal.returns-then-not-first_holds
returns-then-not-first_holds c =
    let o = c.offset_at-offset.result in
    let fits : FitsSigned w64 o = search rules in
    let old = ranges_of c.loop-bytes.left.now in
    let says = span_says o o old (ranges_of c.ending_from-left.result.now) c.first_holds.result fits fits c.ending_from-left.ensures c.first_holds.ensures in
    (λ t. absurd (no t), λ all. absurd (one_missing (ranges_of c.args.ranges.now) c.args.offsets.now c.loop-bytes.bytes-index old o c.loop-bytes-test.true c.offset_at-offset.ensures (sym says ∙ c.if-not-first_holds.true) c.loop-bytes.invariant all))
  where
    no : IsTrue false → ⊥
    no e = cc

pub loop-bytes-preserved : goal.loop-bytes-preserved
loop-bytes-preserved c =
    let o = c.offset_at-offset.result in
    let fits : FitsSigned w64 o = search rules in
    let runs = ranges_of c.args.ranges.now in
    let old = ranges_of c.loop-bytes.left.now in
    let left = ranges_of c.ending_from-left.result.now in
    let says = span_says o o old left c.first_holds.result fits fits c.ending_from-left.ensures c.first_holds.ensures in
    subst (λ (x : Runs). CoveredSoFar runs c.args.offsets.now (c.loop-bytes.bytes-index + 1) x) (sym (left_is o old left fits c.ending_from-left.ensures))
    (one_covered runs c.args.offsets.now c.loop-bytes.bytes-index old o c.loop-bytes-test.true c.offset_at-offset.ensures (sym says ∙ c.if-not-first_holds.false) c.loop-bytes.invariant)
