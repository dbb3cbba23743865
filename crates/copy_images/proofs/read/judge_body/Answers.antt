use Rattle.std.proofs.Common.{inl, inr, sym, subst, refl, rules}
use Rattle.std.specs.Prelude.{ℤ, FitsSigned}
use Rattle.std.specs.Int.{w64}
use Rattle.copy_images.specs.Refusals.{Refuses}
use Rattle.copy_images.specs.Judging.{ranges_of, HoldsBatches, BatchesFault}
use Rattle.copy_images.proofs.Parts.{ends_within, covered_fed}
use Rattle.copy_images.proofs.Refused.{whole_fault, count_is, negative, a_cover, no_cover, are_judged, err_is}
use Rattle.copy_images.proofs.read.judge_body.Goals as goal

pub returns-in_err-parts-clause-refuses : goal.returns-in_err-parts-clause-refuses
returns-in_err-parts-clause-refuses c own =
    err_is c.from_residual.result (Refuses c.args.bytes.now) c.in_err-parts.field-0.0 c.from_residual.ensures.1 (c.in_err-parts.ensures.refuses own)

pub returns-then-not-is_cover-clause-refuses : goal.returns-then-not-is_cover-clause-refuses
returns-then-not-is_cover-clause-refuses c own =
    let parts = c.in_ok-parts.parts in
    let found = c.in_ok-parts.ensures in
    let fits : FitsSigned w64 parts.start = search rules in
    inr (inr (ranges_of parts.ranges.now, parts.count, parts.batches.now, ((c.requires, own), found.starts), found.finds, no_cover c.args.bytes.now (ranges_of parts.ranges.now) parts.start c.is_cover.result fits found.start c.is_cover.ensures c.if-not-is_cover.true))

pub returns-in_default-clause-refuses : goal.returns-in_default-clause-refuses
returns-in_default-clause-refuses c own =
    let parts = c.in_ok-parts.parts in
    let found = c.in_ok-parts.ensures in
    let fits : FitsSigned w64 parts.start = search rules in
    let cover = a_cover c.args.bytes.now (ranges_of parts.ranges.now) parts.start c.is_cover.result fits found.start c.is_cover.ensures c.if-not-is_cover.false in
    inl (refl, (ranges_of parts.ranges.now, parts.count, parts.batches.now, ((c.requires, own), found.starts), found.finds, cover, negative parts.count found.finds.count_fits c.in_default.ensures))

pub returns-in_err-judge_batches-clause-refuses : goal.returns-in_err-judge_batches-clause-refuses
returns-in_err-judge_batches-clause-refuses c own =
    let parts = c.in_ok-parts.parts in
    let found = c.in_ok-parts.ensures in
    let fits : FitsSigned w64 parts.start = search rules in
    let ranges = ranges_of parts.ranges.now in
    let error = c.in_err-judge_batches.field-0.0 in
    let cover = a_cover c.args.bytes.now ranges parts.start c.is_cover.result fits found.start c.is_cover.ensures c.if-not-is_cover.false in
    let count = count_is parts.count c.in-Ok.count found.finds.count_fits c.in-Ok.ensures.0 c.in-Ok.ensures.1 in
    let fault = subst (λ (z : ℤ). BatchesFault ranges z parts.batches.now error) (sym count) c.in_err-judge_batches.ensures.refuses in
    err_is c.from_residual-in_err-judge_batches.result (Refuses c.args.bytes.now) error c.from_residual-in_err-judge_batches.ensures.1 (whole_fault c.args.bytes.now ranges parts.count parts.batches.now ((c.requires, own), found.starts) found.finds cover error fault)

pub slice_bounds-feed-count : goal.slice_bounds-feed-count
slice_bounds-feed-count c =
    let parts = c.in_ok-parts.parts in
    ends_within c.args.bytes.now c.covered-all.result.now (ranges_of parts.ranges.now) parts.count parts.batches.now c.requires.0.0 c.in_ok-parts.ensures.finds c.covered-all.ensures

pub returns-clause-judged : goal.returns-clause-judged
returns-clause-judged c =
    let parts = c.in_ok-parts.parts in
    let found = c.in_ok-parts.ensures in
    let fits : FitsSigned w64 parts.start = search rules in
    let ranges = ranges_of parts.ranges.now in
    let cover = a_cover c.args.bytes.now ranges parts.start c.is_cover.result fits found.start c.is_cover.ensures c.if-not-is_cover.false in
    let count = count_is parts.count c.in-Ok.count found.finds.count_fits c.in-Ok.ensures.0 c.in-Ok.ensures.1 in
    are_judged c.args.bytes.now ranges parts.count parts.batches.now parts.start found.start found.starts cover (subst (λ (z : ℤ). HoldsBatches ranges z parts.batches.now) (sym count) c.in_ok-judge_batches.ensures.accepts)

pub returns-clause-feeds : goal.returns-clause-feeds
returns-clause-feeds c =
    let parts = c.in_ok-parts.parts in
    covered_fed c.args.bytes.now c.covered-all.result.now (ranges_of parts.ranges.now) parts.count parts.batches.now _ _ _ c.requires.0.0 c.in_ok-parts.ensures.finds c.covered-all.ensures c.feed.ensures c.in_ok-judge_batches.ensures.feeds
