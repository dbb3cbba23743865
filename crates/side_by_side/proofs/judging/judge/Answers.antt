use Rattle.std.proofs.Common.{refl, rules, FitsSigned, to_z, of_z}
use Rattle.std.specs.Int.{w64}
use Rattle.std.proofs.lemmas.Int.{to_z-of_z}
use Rattle.deltas.specs.Patches.{later_start}
use Rattle.side_by_side.specs.Steps.{step_of, base_of}
use Rattle.side_by_side.proofs.Agreeing.{passed_on}
use Rattle.side_by_side.proofs.JudgedSteps.{later_is, told_from, denied, none_judged, seen_here, one_judged, fault_judged, all_judged, taken_is, shorter_by}
use Rattle.side_by_side.proofs.judging.judge.Goals as goal

pub loop-kept-init : goal.loop-kept-init
loop-kept-init g c e told = none_judged c.args.copy.now e _ c.new-kept.result (g.T.Telling.tells c.args.told) (g.V.Seen.has_seen c.args.seen) c.new-kept.ensures.all c.new-kept.ensures.is_content told

pub returns-then-not-fits-clause-accepts : goal.returns-then-not-fits-clause-accepts
returns-then-not-fits-clause-accepts g c = tt

pub returns-then-not-fits-clause-refuses : goal.returns-then-not-fits-clause-refuses
returns-then-not-fits-clause-refuses g c e told =
    let base_fits : FitsSigned w64 c.base-base.result = search rules in
    let start_fits : FitsSigned w64 c.args.start = search rules in
    let later_fits : FitsSigned w64 c.later_start-later.result = search rules in
    let starts = later_is c.args.copy.now e c.args.start _ c.later_start-later.result (g.T.Telling.tells c.args.told) _ told (to_z-of_z w64 c.args.start start_fits) c.later_start-later.ensures in
    let so_far = c.loop-kept.invariant e (told_from c.args.start _ (g.T.Telling.tells c.args.told) _ e (to_z-of_z w64 c.args.start start_fits) told) in
    let base_is = passed_on c.base-base.result (base_of (step_of c.next_of-next.result)) base_fits c.base-base.ensures in
    fault_judged c.args.copy.now e c.loop-kept.kept (g.T.Telling.tells c.loop-kept.told) (g.V.Seen.has_seen c.loop-kept.seen) (g.V.Seen.has_seen c.pass_below.new.self) c.has_next.result (step_of c.next_of-next.result) (to_z w64 (of_z w64 c.base-base.result))
    so_far c.has_next.ensures c.loop-kept-test.true c.next_of-next.ensures.next base_is c.pass_below.ensures
    (to_z w64 (of_z w64 c.later_start-later.result)) c.cover.result.now.runs (passed_on c.later_start-later.result (later_start c.args.copy.now e) later_fits starts) c.cover.ensures
    (denied c.fits.result _ (c.fits.ensures e.cover (seen_here c.args.copy.now e c.loop-kept.kept (g.T.Telling.tells c.loop-kept.told) (g.V.Seen.has_seen c.loop-kept.seen) (g.V.Seen.has_seen c.pass_below.new.self) c.has_next.result (step_of c.next_of-next.result) (to_z w64 (of_z w64 c.base-base.result))
    so_far c.has_next.ensures c.loop-kept-test.true c.next_of-next.ensures.next base_is c.pass_below.ensures)) c.if-not-fits.true)

pub pass_told-requires-clause-some : goal.pass_told-requires-clause-some
pass_told-requires-clause-some g c =
    let start_fits : FitsSigned w64 c.args.start = search rules in
    let so_far = c.loop-kept.invariant c.requires.0 (told_from c.args.start _ (g.T.Telling.tells c.args.told) _ c.requires.0 (to_z-of_z w64 c.args.start start_fits) c.requires.1) in
    taken_is c.loop-kept.kept so_far.entries (g.T.Telling.tells c.loop-kept.told) c.of_told-of_told.result (step_of c.next_of-next.result) so_far.told c.next_of-next.ensures.next c.of_told-of_told.ensures

pub loop-kept-smaller : goal.loop-kept-smaller
loop-kept-smaller g c =
    let start_fits : FitsSigned w64 c.args.start = search rules in
    let so_far = c.loop-kept.invariant c.requires.0 (told_from c.args.start _ (g.T.Telling.tells c.args.told) _ c.requires.0 (to_z-of_z w64 c.args.start start_fits) c.requires.1) in
    shorter_by c.loop-kept.kept c.pass_batches.new.self so_far.entries (g.T.Telling.tells c.loop-kept.told) c.of_kept-of_kept.result c.of_told-of_told.result (g.T.Telling.left c.loop-kept.told) (g.T.Telling.left c.pass_told.new.told) c.has_next.result (step_of c.next_of-next.result)
    so_far.told c.has_next.ensures c.loop-kept-test.true c.next_of-next.ensures.next c.pass_batches.ensures c.of_kept-of_kept.ensures c.of_told-of_told.ensures c.pass_told.ensures.shorter

pub loop-kept-preserved : goal.loop-kept-preserved
loop-kept-preserved g c e told =
    let base_fits : FitsSigned w64 c.base-base.result = search rules in
    let later_fits : FitsSigned w64 c.later_start-later.result = search rules in
    let starts = later_is c.args.copy.now e _ _ c.later_start-later.result (g.T.Telling.tells c.args.told) _ told refl c.later_start-later.ensures in
    let so_far = c.loop-kept.invariant e told in
    let base_is = passed_on c.base-base.result (base_of (step_of c.next_of-next.result)) base_fits c.base-base.ensures in
    one_judged c.args.copy.now e c.loop-kept.kept (g.T.Telling.tells c.loop-kept.told) (g.V.Seen.has_seen c.loop-kept.seen) (g.V.Seen.has_seen c.pass_below.new.self) c.has_next.result (step_of c.next_of-next.result) (to_z w64 (of_z w64 c.base-base.result))
    so_far c.has_next.ensures c.loop-kept-test.true c.next_of-next.ensures.next base_is c.pass_below.ensures
    (to_z w64 (of_z w64 c.later_start-later.result)) c.cover.result.now.runs (passed_on c.later_start-later.result (later_start c.args.copy.now e) later_fits starts) c.cover.ensures
    c.of_kept-of_kept.result c.of_told-of_told.result c.pass_batches.new.self (g.T.Telling.tells c.pass_told.new.told) c.pass_batches.ensures c.of_kept-of_kept.ensures c.of_told-of_told.ensures c.pass_told.ensures.passes
    ((c.fits.ensures e.cover (seen_here c.args.copy.now e c.loop-kept.kept (g.T.Telling.tells c.loop-kept.told) (g.V.Seen.has_seen c.loop-kept.seen) (g.V.Seen.has_seen c.pass_below.new.self) c.has_next.result (step_of c.next_of-next.result) (to_z w64 (of_z w64 c.base-base.result))
    so_far c.has_next.ensures c.loop-kept-test.true c.next_of-next.ensures.next base_is c.pass_below.ensures)).0 c.if-not-fits.false)

pub returns-clause-accepts : goal.returns-clause-accepts
returns-clause-accepts g c e told =
    let start_fits : FitsSigned w64 c.args.start = search rules in
    let so_far = c.loop-kept.invariant e (told_from c.args.start _ (g.T.Telling.tells c.args.told) _ e (to_z-of_z w64 c.args.start start_fits) told) in
    all_judged c.args.copy.now e c.loop-kept.kept (g.T.Telling.tells c.loop-kept.told) (g.V.Seen.has_seen c.loop-kept.seen) c.has_next.result so_far c.has_next.ensures c.loop-kept-test.false
