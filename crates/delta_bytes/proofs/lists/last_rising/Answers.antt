use Rattle.std.proofs.Common.{◌+◌, rules, arith, subst, sym}
use Rattle.std.specs.Prelude.{ℤ, FitsSigned, ◌≤ℤ◌, ◌<ℤ◌}
use Rattle.std.specs.Int.{w64, cast_signed, cast_unsigned}
use Rattle.std.proofs.lemmas.Int.{ints, to_z-of_z}
use Rattle.delta_bytes.proofs.Rising.{RiseSoFar, one_rises, one_falls}
use Rattle.delta_bytes.proofs.lists.last_rising.Goals as goal

-- the offset before them as it is passed on
abbrev passed : ℤ → ℤ
passed before = cast_signed w64 (cast_unsigned w64 before)

pub returns-then-offset-last : goal.returns-then-offset-last
returns-then-offset-last c =
    let o = c.offset_at-offset.result in
    let fits : FitsSigned w64 o = search rules in
    let le : o ≤ℤ c.loop-bytes.last = grind (arith, ints, c.if-offset-last.true) in
    let so_far = subst (RiseSoFar (passed c.args.before) c.args.offsets.now c.loop-bytes.bytes-index) c.loop-bytes.last-is c.loop-bytes.invariant in
    one_falls c.args.before c.args.offsets.now c.loop-bytes.bytes-index c.loop-bytes.last o c.loop-bytes-test.true c.offset_at-offset.ensures le
    (subst (λ (z : ℤ). RiseSoFar z c.args.offsets.now c.loop-bytes.bytes-index c.loop-bytes.last) (to_z-of_z w64 c.args.before c.ranges.before) so_far)

pub loop-bytes-preserved : goal.loop-bytes-preserved
loop-bytes-preserved c =
    let o = c.offset_at-offset.result in
    let fits : FitsSigned w64 o = search rules in
    let less : c.loop-bytes.last <ℤ o = grind (arith, ints, c.if-offset-last.false) in
    let so_far = subst (RiseSoFar (passed c.args.before) c.args.offsets.now c.loop-bytes.bytes-index) c.loop-bytes.last-is c.loop-bytes.invariant in
    subst (RiseSoFar (passed c.args.before) c.args.offsets.now (c.loop-bytes.bytes-index + 1)) (sym (to_z-of_z w64 o fits))
    (one_rises (passed c.args.before) c.args.offsets.now c.loop-bytes.bytes-index c.loop-bytes.last o c.loop-bytes-test.true c.offset_at-offset.ensures less so_far)
