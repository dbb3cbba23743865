use Rattle.std.proofs.Common.{sym, subst, refl, get_or}
use Rattle.std.specs.Prelude.{ℤ, pos, ◌<ℤ◌}
use Rattle.std.specs.List.{AllWithin}
use Rattle.cover_ranges.specs.Index.{IsIndexOf}
use Rattle.cover_ranges.proofs.Runs.{IsSubsetSoFar, subset_step, subset_at_start, subset_at_end, passed_run, same_passed, held_passed, both_le}
use Rattle.cover_ranges.proofs.search.is_subset.Goals as goal

pub loop-range-init : goal.loop-range-init
loop-range-init c = subset_at_start c.args.inner.now c.args.outer.now

pub index_after-at-requires-clause-within : goal.index_after-at-requires-clause-within
index_after-at-requires-clause-within c = c.loop-range.invariant.within

pub index_after-at-requires-clause-passed : goal.index_after-at-requires-clause-passed
index_after-at-requires-clause-passed c =
    let run = c.requires.inner_canonical.are_runs c.loop-range.range-index (pos 0, pos 0) c.loop-range-test.true in
    subst (λ (z : ℤ). AllWithin (λ r. r.1 <ℤ z) c.args.outer.now 0 c.loop-range.at) (same_passed (get_or c.args.inner.now c.loop-range.range-index (pos 0, pos 0)) run).0 (c.loop-range.invariant.passed (pos 0, pos 0) c.loop-range-test.true)

pub holds_all-requires-clause-canonical : goal.holds_all-requires-clause-canonical
holds_all-requires-clause-canonical c = c.requires.outer_canonical

pub holds_all-requires-clause-index : goal.holds_all-requires-clause-index
holds_all-requires-clause-index c = c.index_after-at.ensures

pub holds_all-requires-clause-some : goal.holds_all-requires-clause-some
holds_all-requires-clause-some c = (passed_run (get_or c.args.inner.now c.loop-range.range-index (pos 0, pos 0)) (c.requires.inner_canonical.are_runs c.loop-range.range-index (pos 0, pos 0) c.loop-range-test.true)).1

pub loop-range-preserved : goal.loop-range-preserved
loop-range-preserved c =
    let run = c.requires.inner_canonical.are_runs c.loop-range.range-index (pos 0, pos 0) c.loop-range-test.true in
    let index : IsIndexOf (get_or c.args.inner.now c.loop-range.range-index (pos 0, pos 0)).0 c.args.outer.now c.index_after-at.result =
    subst (λ (z : ℤ). IsIndexOf z c.args.outer.now c.index_after-at.result) (sym (same_passed (get_or c.args.inner.now c.loop-range.range-index (pos 0, pos 0)) run).0) c.index_after-at.ensures in
    subset_step c.args.inner.now c.args.outer.now c.loop-range.range-index c.loop-range.at (pos 0, pos 0) c.requires.inner_canonical c.loop-range-test.true c.loop-range.invariant c.index_after-at.result index
    (held_passed c.args.outer.now (get_or c.args.inner.now c.loop-range.range-index (pos 0, pos 0)) run c.if-not-holds_all.ensures)

pub returns : goal.returns
returns c = (
  (λ yes. subset_at_end c.args.inner.now c.args.outer.now c.loop-range.at (subst (λ n. IsSubsetSoFar c.args.inner.now c.args.outer.now n c.loop-range.at) (both_le c.loop-range.range-index _ c.loop-range.auto.range-index-end c.loop-range-test.false) c.loop-range.invariant)),
  (λ all. refl),
)
