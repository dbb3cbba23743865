use Rattle.std.proofs.Common.{rules, arith, ◌≡◌, ◌+ℤ◌, pos}
use Rattle.std.specs.Prelude.{◌^◌, ◌<ℤ◌, FitsSigned}
use Rattle.std.specs.Int.{w64, cast_signed, cast_unsigned}
use Rattle.std.proofs.lemmas.Int.{ints}
use Rattle.copy_images.specs.Judging.{ranges_of}
use Rattle.delta_bytes.proofs.Walk.{at_entry_small, no_next, not_within, walked_step}
use Rattle.delta_bytes.proofs.counted.judge_entries.Goals as goal

pub returns-in-Err-Bad-clause-refuses : goal.returns-in-Err-Bad-clause-refuses
returns-in-Err-Bad-clause-refuses c =
    no_next (ranges_of c.args.ranges.now) (ranges_of c.args.asked.now) c.args.bytes.now c.loop-index.index c.args.count _ c.loop-index.rest.now (ranges_of c.loop-index.ranges_left.now) (ranges_of c.loop-index.asked_left.now) c.in-Err-Bad.field-0 c.loop-index.invariant c.loop-index-test.true c.in-Err-Bad.field-0-is c.in-Err-Bad.ensures.refuses

pub returns-in-Err-Unseen-clause-refuses : goal.returns-in-Err-Unseen-clause-refuses
returns-in-Err-Unseen-clause-refuses c =
    not_within (ranges_of c.args.ranges.now) (ranges_of c.args.asked.now) c.args.bytes.now c.loop-index.index c.args.count _ c.loop-index.rest.now (ranges_of c.loop-index.ranges_left.now) (ranges_of c.loop-index.asked_left.now) c.in-Err-Unseen.field-0 c.loop-index.invariant c.loop-index-test.true c.in-Err-Unseen.field-0-is c.in-Err-Unseen.ensures.refuses

pub overflow_add-low : goal.overflow_add-low
overflow_add-low c =
    let last = c.in-Ok.entry.last in
    let fits : FitsSigned w64 last = search rules in
    let small : last <ℤ pos (2 ^ 62) = at_entry_small (ranges_of c.loop-index.ranges_left.now) (ranges_of c.loop-index.asked_left.now) _ c.loop-index.rest.now last c.in-Ok.entry.size c.loop-index.invariant.canonical c.in-Ok.ensures.accepts in
    search rules

pub loop-index-preserved : goal.loop-index-preserved
loop-index-preserved c =
    let last = c.in-Ok.entry.last in
    let fits : FitsSigned w64 last = search rules in
    let small : last <ℤ pos (2 ^ 62) = at_entry_small (ranges_of c.loop-index.ranges_left.now) (ranges_of c.loop-index.asked_left.now) _ c.loop-index.rest.now last c.in-Ok.entry.size c.loop-index.invariant.canonical c.in-Ok.ensures.accepts in
    let one_more : cast_signed w64 (cast_unsigned w64 (cast_signed w64 (cast_unsigned w64 last) +ℤ pos 1)) ≡ last +ℤ pos 1 = omega (arith, ints) in
    walked_step (ranges_of c.args.ranges.now) (ranges_of c.args.asked.now) c.args.bytes.now c.loop-index.index _ _ c.loop-index.rest.now (ranges_of c.loop-index.ranges_left.now) (ranges_of c.loop-index.asked_left.now) _ _ last c.in-Ok.entry.size c.loop-index.invariant c.in-Ok.ensures.accepts one_more c.ending_from-ranges_left.ensures c.ending_from-asked_left.ensures
