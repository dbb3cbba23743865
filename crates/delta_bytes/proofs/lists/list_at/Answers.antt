use Rattle.std.proofs.Common.{rules}
use Rattle.std.specs.Prelude.{FitsSigned}
use Rattle.std.specs.Int.{w32, w64}
use Rattle.copy_images.proofs.Parts.{below_zero, counted_is}
use Rattle.delta_bytes.proofs.OffsetLists.{short_list, negative_list, cut_list, list_found}
use Rattle.delta_bytes.proofs.lists.list_at.Goals as goal

pub returns-then-bytes-lt-OFFSETS_AT : goal.returns-then-bytes-lt-OFFSETS_AT
returns-then-bytes-lt-OFFSETS_AT c = short_list c.args.bytes.now c.if-bytes-lt-OFFSETS_AT.true

pub returns-in_default : goal.returns-in_default
returns-in_default c =
    let fits : FitsSigned w32 c.be_i32_at.result = search rules in
    negative_list c.args.bytes.now c.be_i32_at.result c.be_i32_at.ensures (below_zero c.be_i32_at.result fits c.in_default.ensures)

pub returns-then-bytes-end : goal.returns-then-bytes-end
returns-then-bytes-end c =
    let fits : FitsSigned w32 c.be_i32_at.result = search rules in
    let count = counted_is c.be_i32_at.result c.in-Ok.count fits c.in-Ok.ensures.0 c.in-Ok.ensures.1 in
    cut_list c.args.bytes.now c.be_i32_at.result c.in-Ok.count c.be_i32_at.ensures count.0 c.if-bytes-end.true

pub returns : goal.returns
returns c =
    let fits : FitsSigned w32 c.be_i32_at.result = search rules in
    let base_fits : FitsSigned w64 c.be_i64_at.result = search rules in
    let count = counted_is c.be_i32_at.result c.in-Ok.count fits c.in-Ok.ensures.0 c.in-Ok.ensures.1 in
    list_found c.args.bytes.now c.be_i64_at.result c.be_i32_at.result c.in-Ok.count c.as_chunks.result.0.now (λ i. (c.type_inv.bytes i).fits) c.be_i32_at.ensures count c.if-bytes-end.false c.as_chunks.ensures.front c.be_i64_at.ensures base_fits
