use Rattle.std.proofs.Common.{rules}
use Rattle.std.specs.Prelude.{FitsSigned}
use Rattle.std.specs.Int.{w64}
use Rattle.copy_images.specs.Judging.{ranges_of}
use Rattle.delta_bytes.proofs.Covered.{span_decided}
use Rattle.delta_bytes.proofs.seen.is_span_within.Goals as goal

pub returns-then-covers_all : goal.returns-then-covers_all
returns-then-covers_all c =
    let f : FitsSigned w64 c.base-first.result = search rules in
    let l : FitsSigned w64 c.last_offset-last.result = search rules in
    span_decided (ranges_of c.args.ranges.now) (ranges_of c.args.asked.now) c.args.batch.now c.base-first.result c.last_offset-last.result c.covers_all.result c.covers_any.result c.base-first.ensures c.last_offset-last.ensures f l c.covers_all.ensures c.covers_any.ensures c.if-covers_all.true
