use Rattle.std.proofs.Common.{◌+ℤ◌, pos, ◌+◌, inl, inr, rules, arith, ◌≡◌, sym, subst}
use Rattle.std.specs.Prelude.{ℤ, FitsSigned, ◌≤ℤ◌, ◌<ℤ◌}
use Rattle.std.specs.Int.{w64, cast_signed, cast_unsigned}
use Rattle.std.proofs.lemmas.Int.{ints, to_z-of_z}
use Rattle.cover_ranges.specs.declared.TheConstants.{OFFSETS_END}
use Rattle.copy_images.proofs.Runs.{Passes, one_passes, one_fails, all_pass}
use Rattle.copy_images.proofs.ranges.is_cover.Goals.{then-first-least-via-then-first-least, then-first-least-via-else-first-least+then-last-first, then-first-least-via-else-first-least+else-last-first+then-last-ge-OFFSETS_END}
use Rattle.copy_images.proofs.ranges.is_cover.Goals as goal

-- the start as it is passed on
abbrev passed : ℤ → ℤ
passed start = cast_signed w64 (cast_unsigned w64 start)

pub returns-then-first-least : goal.returns-then-first-least
returns-then-first-least c =
    let range = c.range_at-first.result in
    let f : FitsSigned w64 range.0 = search rules in
    let l : FitsSigned w64 range.1 = search rules in
    let so_far = subst (Passes (passed c.args.start) c.args.ranges.now c.loop-bytes.bytes-index) c.loop-bytes.least-is c.loop-bytes.invariant in
    one_fails c.args.start c.args.ranges.now c.loop-bytes.bytes-index c.loop-bytes.least range c.loop-bytes-test.true c.range_at-first.ensures
    (elim c.then-first-least.branch [
      | then-first-least-via-then-first-least w ↦ inl (grind (arith, ints, w.if-first-least.true))
      | then-first-least-via-else-first-least+then-last-first w ↦ inr (inl (grind (arith, ints, w.if-last-first.true)))
      | then-first-least-via-else-first-least+else-last-first+then-last-ge-OFFSETS_END w ↦ inr (inr (grind (arith, ints, w.if-last-ge-OFFSETS_END.true)))
    ])
    (subst (λ (z : ℤ). Passes z c.args.ranges.now c.loop-bytes.bytes-index c.loop-bytes.least) (to_z-of_z w64 c.args.start c.ranges.start) so_far)

pub loop-bytes-preserved : goal.loop-bytes-preserved
loop-bytes-preserved c =
    let range = c.range_at-first.result in
    let f : FitsSigned w64 range.0 = search rules in
    let l : FitsSigned w64 range.1 = search rules in
    let a : c.loop-bytes.least ≤ℤ range.0 = grind (arith, ints, c.if-first-least.false) in
    let b : range.0 ≤ℤ range.1 = grind (arith, ints, c.if-last-first.false) in
    let d : range.1 <ℤ OFFSETS_END = grind (arith, ints, c.if-last-ge-OFFSETS_END.false) in
    let same : cast_signed w64 (cast_unsigned w64 (cast_signed w64 (cast_unsigned w64 range.1) +ℤ pos 2)) ≡ range.1 +ℤ pos 2 = omega (arith, ints) in
    let so_far = subst (Passes (passed c.args.start) c.args.ranges.now c.loop-bytes.bytes-index) c.loop-bytes.least-is c.loop-bytes.invariant in
    subst (λ x. Passes (passed c.args.start) c.args.ranges.now (c.loop-bytes.bytes-index + 1) x) (sym same) (one_passes (passed c.args.start) c.args.ranges.now c.loop-bytes.bytes-index c.loop-bytes.least range c.loop-bytes-test.true c.range_at-first.ensures a b d so_far)

pub returns : goal.returns
returns c =
    let so_far = subst (Passes (passed c.args.start) c.args.ranges.now c.loop-bytes.bytes-index) c.loop-bytes.least-is c.loop-bytes.invariant in
    all_pass c.args.start c.args.ranges.now c.loop-bytes.bytes-index c.loop-bytes.least c.requires c.loop-bytes-test.false
    (subst (λ (z : ℤ). Passes z c.args.ranges.now c.loop-bytes.bytes-index c.loop-bytes.least) (to_z-of_z w64 c.args.start c.ranges.start) so_far)
