use Rattle.std.proofs.Common.{rules}
use Rattle.std.specs.Prelude.{FitsSigned}
use Rattle.std.specs.Int.{w32}
use Rattle.copy_images.proofs.Parts.{counted_is}
use Rattle.delta_bytes.proofs.RangeParts.{ranges_found}
use Rattle.delta_bytes.proofs.ranges.cut_ranges.Goals as goal

pub returns-clause-cuts : goal.returns-clause-cuts
returns-clause-cuts c =
    let fits : FitsSigned w32 c.be_i32_at.result = search rules in
    let count = counted_is c.be_i32_at.result c.in-Ok.count fits c.in-Ok.ensures.0 c.in-Ok.ensures.1 in
    ranges_found c.args.bytes.now c.be_i32_at.result c.in-Ok.count c.args.behind c.as_chunks.result.0.now (λ i. (c.type_inv.bytes i).fits) c.be_i32_at.ensures count c.if-bytes-end.false c.as_chunks.ensures.front
