use Rattle.std.proofs.Common.{sym, subst, arith, w64}
use Rattle.std.specs.Prelude.{ℤ, ◌<ℤ◌}
use Rattle.std.specs.List.{AllWithin}
use Rattle.std.proofs.lemmas.Int.{ints, to_z-of_z}
use Rattle.cover_ranges.proofs.Runs.{one_within, more_end_before, fewer_left}
use Rattle.cover_ranges.proofs.search.index_after.Goals as goal

pub loop-at-init : goal.loop-at-init
loop-at-init c = record {
  within = c.requires.within;
  passed = subst (λ (z : ℤ). AllWithin (λ run. run.1 <ℤ z) c.args.ranges.now 0 c.args.from) (sym (to_z-of_z w64 c.args.offset c.ranges.offset)) c.requires.passed;
}

pub loop-at-preserved : goal.loop-at-preserved
loop-at-preserved c = record {
  within = one_within c.loop-at.at _ c.loop-at-test.true;
  passed = more_end_before c.args.ranges.now c.loop-at.at _ c.loop-at-test.true (omega (arith, ints)) c.loop-at.invariant.passed;
}

pub loop-at-smaller : goal.loop-at-smaller
loop-at-smaller c = fewer_left c.loop-at.at _ c.loop-at-test.true

pub bounds-ranges-at : goal.bounds-ranges-at
bounds-ranges-at c = c.loop-at-test.true
