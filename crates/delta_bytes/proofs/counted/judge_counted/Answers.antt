use Rattle.std.proofs.Common.{rules, refl, sym, ◌∙◌}
use Rattle.std.specs.Prelude.{FitsSigned}
use Rattle.std.specs.Int.{w32}
use Rattle.copy_images.specs.Judging.{ranges_of}
use Rattle.copy_images.proofs.Refused.{count_is}
use Rattle.delta_bytes.proofs.CountedEntries.{counted_accepts, counted_refuses}
use Rattle.delta_bytes.proofs.counted.judge_counted.Goals as goal

pub returns-clause-accepts : goal.returns-clause-accepts
returns-clause-accepts c =
    let fits : FitsSigned w32 c.be_i32_at.result = search rules in
    let count = count_is c.be_i32_at.result c.in-Ok.count fits c.in-Ok.ensures.0 c.in-Ok.ensures.1 in
    counted_accepts (ranges_of c.args.ranges.now) (ranges_of c.args.asked.now) c.args.bytes.now _ c.in-Ok.count (λ i. (c.type_inv.bytes i).fits) c.requires.counted refl (sym c.be_i32_at.ensures ∙ count) c.judge_entries.result c.judge_entries.ensures.accepts

pub returns-clause-refuses : goal.returns-clause-refuses
returns-clause-refuses c =
    let fits : FitsSigned w32 c.be_i32_at.result = search rules in
    let count = count_is c.be_i32_at.result c.in-Ok.count fits c.in-Ok.ensures.0 c.in-Ok.ensures.1 in
    counted_refuses (ranges_of c.args.ranges.now) (ranges_of c.args.asked.now) c.args.bytes.now _ c.in-Ok.count (λ i. (c.type_inv.bytes i).fits) c.requires.counted refl (sym c.be_i32_at.ensures ∙ count) c.judge_entries.result c.judge_entries.ensures.refuses
