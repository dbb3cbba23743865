use Rattle.std.proofs.Common.{◌≡◌, ◌+◌, ℕ, sym, ◌∙◌, ap, subst, drop, rules, arith}
use Rattle.std.specs.Prelude.{ℤ, FitsSigned, ◌≤ℤ◌, ◌<ℤ◌}
use Rattle.std.specs.Int.{w64}
use Rattle.std.proofs.lemmas.Int.{ints, to_z-of_z}
use Rattle.std.proofs.lemmas.List.{take_rest}
use Rattle.delta_bytes.specs.Judging.{offsets_of}
use Rattle.side_by_side.specs.ListWalks.{offsets_from}
use Rattle.delta_bytes.proofs.Rising.{Parts}
use Rattle.side_by_side.proofs.ListedRecords.{passed_over, stopped_at, from_none, offsets-drop}
use Rattle.side_by_side.proofs.listed.from_offset.Goals as goal

abbrev BeginsLikewise : Parts → ℕ → ℤ → Type 0
BeginsLikewise parts i offset = offsets_from offset (drop i (offsets_of parts)) ≡ offsets_from offset (offsets_of parts)

pub returns-then-offset-offset_at : goal.returns-then-offset-offset_at
returns-then-offset-offset_at c =
    let f : FitsSigned w64 c.offset_at.result = search rules in
    let le : c.args.offset ≤ℤ c.offset_at.result = grind (arith, ints, c.if-offset-offset_at.true) in
    let so_far = subst (BeginsLikewise c.args.offsets.now c.loop-at.at) (to_z-of_z w64 c.args.offset c.ranges.offset) c.loop-at.invariant in
    ap offsets_of (take_rest c.args.offsets.now c.loop-at.at) ∙ offsets-drop c.args.offsets.now c.loop-at.at
    ∙ sym (stopped_at c.args.offsets.now c.loop-at.at c.args.offset c.offset_at.result c.loop-at-test.true c.offset_at.ensures le) ∙ so_far

pub returns : goal.returns
returns c =
    let so_far = subst (BeginsLikewise c.args.offsets.now c.loop-at.at) (to_z-of_z w64 c.args.offset c.ranges.offset) c.loop-at.invariant in
    sym (from_none c.args.offsets.now c.loop-at.at c.args.offset c.loop-at-test.false) ∙ so_far

pub loop-at-preserved : goal.loop-at-preserved
loop-at-preserved c =
    let f : FitsSigned w64 c.offset_at.result = search rules in
    let less : c.offset_at.result <ℤ c.args.offset = grind (arith, ints, c.if-offset-offset_at.false) in
    let same = to_z-of_z w64 c.args.offset c.ranges.offset in
    let so_far = subst (BeginsLikewise c.args.offsets.now c.loop-at.at) same c.loop-at.invariant in
    subst (BeginsLikewise c.args.offsets.now (c.loop-at.at + 1)) (sym same) (sym (passed_over c.args.offsets.now c.loop-at.at c.args.offset c.offset_at.result c.loop-at-test.true c.offset_at.ensures less) ∙ so_far)
