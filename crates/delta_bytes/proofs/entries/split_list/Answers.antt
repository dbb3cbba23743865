use Rattle.std.proofs.Common.{refl, rules, arith}
use Rattle.std.specs.Prelude.{FitsSigned}
use Rattle.std.specs.Int.{w32, w64}
use Rattle.delta_bytes.proofs.EntryViews.{list_long, list_count, list_size, list_read}
use Rattle.delta_bytes.proofs.entries.split_list.Goals as goal

pub be_i32_at-requires : goal.be_i32_at-requires
be_i32_at-requires c = list_long c.requires.0 c.requires.1 c.args.bytes.now c.requires.2

pub slice_bounds-as_chunks-end : goal.slice_bounds-as_chunks-end
slice_bounds-as_chunks-end c =
    let fits : FitsSigned w32 c.be_i32_at.result = search rules in
    list_size c.requires.0 c.requires.1 c.args.bytes.now c.unsigned_abs-count.result c.requires.2
    (list_count c.requires.0 c.requires.1 c.args.bytes.now c.be_i32_at.result c.unsigned_abs-count.result c.requires.2 c.be_i32_at.ensures fits c.unsigned_abs-count.ensures.value)

pub be_i64_at-base-requires : goal.be_i64_at-base-requires
be_i64_at-base-requires c = omega (arith, list_long c.requires.0 c.requires.1 c.args.bytes.now c.requires.2)

pub slice_bounds-result-count : goal.slice_bounds-result-count
slice_bounds-result-count c =
    let fits : FitsSigned w32 c.be_i32_at.result = search rules in
    list_size c.requires.0 c.requires.1 c.args.bytes.now c.unsigned_abs-count.result c.requires.2
    (list_count c.requires.0 c.requires.1 c.args.bytes.now c.be_i32_at.result c.unsigned_abs-count.result c.requires.2 c.be_i32_at.ensures fits c.unsigned_abs-count.ensures.value)

pub slice_bounds-result-start : goal.slice_bounds-result-start
slice_bounds-result-start c =
    let fits : FitsSigned w32 c.be_i32_at.result = search rules in
    list_size c.requires.0 c.requires.1 c.args.bytes.now c.unsigned_abs-count.result c.requires.2
    (list_count c.requires.0 c.requires.1 c.args.bytes.now c.be_i32_at.result c.unsigned_abs-count.result c.requires.2 c.be_i32_at.ensures fits c.unsigned_abs-count.ensures.value)

pub returns : goal.returns
returns c base offsets at =
    let fits : FitsSigned w32 c.be_i32_at.result = search rules in
    let base_fits : FitsSigned w64 c.be_i64_at-base.result = search rules in
    list_read base offsets c.args.bytes.now at c.be_i32_at.result c.be_i64_at-base.result c.unsigned_abs-count.result c.as_chunks.result.0.now _ (λ i. (c.type_inv.bytes i).fits) c.be_i32_at.ensures
    (list_count base offsets c.args.bytes.now c.be_i32_at.result c.unsigned_abs-count.result at c.be_i32_at.ensures fits c.unsigned_abs-count.ensures.value)
    c.as_chunks.ensures.front c.be_i64_at-base.ensures base_fits refl
