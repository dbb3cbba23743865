use Rattle.std.proofs.Common.{rules, arith, refl, ap, sym, subst, length, ◌≡◌, ◌∙◌, ◌+ℤ◌, pos}
use Rattle.std.specs.Prelude.{ℤ, ◌^◌, ◌<ℤ◌, FitsSigned}
use Rattle.std.specs.Int.{w64, cast_signed, cast_unsigned}
use Rattle.std.proofs.lemmas.Int.{ints}
use Rattle.copy_images.specs.Judging.{ranges_of}
use Rattle.copy_images.proofs.Judged.{IsAsked, judged_none, asked, judged_step, outside, starts_within, no_next, extra, all_held, fed_one, fed_all}
use Rattle.copy_images.proofs.Kept.{longer_than_none, none_left}
use Rattle.copy_images.proofs.batches.judge_batches.Goals as goal

pub loop-index-init : goal.loop-index-init
loop-index-init c = (judged_none (ranges_of c.args.ranges.now) c.args.bytes.now c.requires, refl)

pub returns-then-not-first_holds-clause-refuses : goal.returns-then-not-first_holds-clause-refuses
returns-then-not-first_holds-clause-refuses c =
    let b = c.in-Some.batch in
    let f : FitsSigned w64 c.base-first.result = search rules in
    let l : FitsSigned w64 c.last_offset-last.result = search rules in
    let old = ranges_of c.loop-index.left.now in
    let left = ranges_of c.ending_from-left.result.now in
    let a : IsAsked b old left c.first_holds.result = asked b old left c.first_holds.result c.base-first.result c.last_offset-last.result c.base-first.ensures c.last_offset-last.ensures f l c.ending_from-left.ensures c.first_holds.ensures in
    outside (ranges_of c.args.ranges.now) c.args.bytes.now c.loop-index.index c.args.count _ c.loop-index.rest.now old left b c.first_holds.result c.requires c.loop-index.invariant.0 c.in-Some.ensures.next a c.if-not-first_holds.true c.loop-index-test.true

pub loop-index-preserved : goal.loop-index-preserved
loop-index-preserved c =
    let b = c.in-Some.batch in
    let f : FitsSigned w64 c.base-first.result = search rules in
    let l : FitsSigned w64 c.last_offset-last.result = search rules in
    let old = ranges_of c.loop-index.left.now in
    let left = ranges_of c.ending_from-left.result.now in
    let a : IsAsked b old left c.first_holds.result = asked b old left c.first_holds.result c.base-first.result c.last_offset-last.result c.base-first.ensures c.last_offset-last.ensures f l c.ending_from-left.ensures c.first_holds.ensures in
    let end = c.last_offset-last.ensures in
    let small : c.last_offset-last.result <ℤ pos (2 ^ 62) = subst (λ (z : ℤ). z <ℤ pos (2 ^ 62)) (sym end) c.in-Some.ensures.next.in_range.1 in
    let one_more : cast_signed w64 (cast_unsigned w64 (cast_signed w64 (cast_unsigned w64 c.last_offset-last.result) +ℤ pos 1)) ≡ c.last_offset-last.result +ℤ pos 1 = omega (arith, ints) in
    let from = one_more ∙ ap (λ (z : ℤ). z +ℤ pos 1) end in
    let size = ap length c.bytes.ensures.encoding in (
      judged_step (ranges_of c.args.ranges.now) c.args.bytes.now c.loop-index.index _ _ c.loop-index.rest.now old left b _ c.first_holds.result c.requires c.loop-index.invariant.0 c.in-Some.ensures.next a c.if-not-first_holds.false size from,
      fed_one _ b c.loop-index.rest.now _ c.loop-index.crc _ c.in-Some.ensures.next size c.in-Some.ensures.feeds ∙ c.loop-index.invariant.1,
    )

pub slice_bounds-rest-count : goal.slice_bounds-rest-count
slice_bounds-rest-count c = starts_within _ c.in-Some.batch c.loop-index.rest.now c.bytes.result.now c.in-Some.ensures.next c.bytes.ensures.encoding

pub returns-in-None-clause-refuses : goal.returns-in-None-clause-refuses
returns-in-None-clause-refuses c =
    no_next (ranges_of c.args.ranges.now) c.args.bytes.now c.loop-index.index c.args.count _ c.loop-index.rest.now (ranges_of c.loop-index.left.now) c.loop-index.invariant.0 c.in-None.ensures.next c.loop-index-test.true

pub returns-then-not-is_empty-clause-refuses : goal.returns-then-not-is_empty-clause-refuses
returns-then-not-is_empty-clause-refuses c =
    extra (ranges_of c.args.ranges.now) c.args.bytes.now c.loop-index.index c.args.count _ c.loop-index.rest.now (ranges_of c.loop-index.left.now) c.loop-index.invariant.0 c.loop-index.auto.index-end c.loop-index-test.false
    (longer_than_none c.loop-index.rest.now c.is_empty.result c.is_empty.ensures c.if-not-is_empty.true)

pub returns-clause-accepts : goal.returns-clause-accepts
returns-clause-accepts c =
    all_held (ranges_of c.args.ranges.now) c.args.bytes.now c.loop-index.index c.args.count _ c.loop-index.rest.now (ranges_of c.loop-index.left.now) c.loop-index.invariant.0 c.loop-index.auto.index-end c.loop-index-test.false
    (none_left c.loop-index.rest.now c.is_empty.result c.is_empty.ensures c.if-not-is_empty.false)

pub returns-clause-feeds : goal.returns-clause-feeds
returns-clause-feeds c = fed_all c.args.bytes.now c.loop-index.rest.now _ _ c.loop-index.invariant.1 (none_left c.loop-index.rest.now c.is_empty.result c.is_empty.ensures c.if-not-is_empty.false)
