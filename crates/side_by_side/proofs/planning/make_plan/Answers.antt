use Rattle.std.proofs.Common.{refl, rules, FitsSigned, to_z, of_z}
use Rattle.std.specs.Int.{w64}
use Rattle.std.proofs.lemmas.Int.{to_z-of_z}
use Rattle.deltas.specs.Patches.{later_start}
use Rattle.side_by_side.specs.Steps.{step_of}
use Rattle.side_by_side.proofs.Agreeing.{passed_on}
use Rattle.side_by_side.proofs.JudgedSteps.{later_is, told_from, taken_is, shorter_by}
use Rattle.side_by_side.proofs.PlannedSteps.{none_planned, plan_room, plan_step, all_planned}
use Rattle.side_by_side.proofs.planning.make_plan.Goals as goal

pub loop-alloc-init : goal.loop-alloc-init
loop-alloc-init g c e told =
    none_planned c.args.copy.now e _ c.new-kept.result (g.T.Telling.tells c.args.told) _ c.new.result.items (g.S.BatchStore.batches c.new-2.result) c.new-kept.ensures.all c.new.ensures.items c.new-2.ensures.is_empty c.new-kept.ensures.is_content told

pub plan_next-requires-clause-room : goal.plan_next-requires-clause-room
plan_next-requires-clause-room g c =
    let e = c.requires.0 in
    let told = c.requires.1 in
    let start_fits : FitsSigned w64 c.args.start = search rules in
    let so_far = c.loop-alloc.invariant e (told_from c.args.start _ (g.T.Telling.tells c.args.told) _ e (to_z-of_z w64 c.args.start start_fits) told) in
    let later_fits : FitsSigned w64 c.later_start-later.result = search rules in
    let starts = later_is c.args.copy.now e c.args.start _ c.later_start-later.result (g.T.Telling.tells c.args.told) _ told (to_z-of_z w64 c.args.start start_fits) c.later_start-later.ensures in
    plan_room c.args.copy.now e c.loop-alloc.kept (g.T.Telling.tells c.loop-alloc.told) c.loop-alloc.plan.turns.items (g.S.BatchStore.batches c.loop-alloc.plan.more) c.has_next.result (step_of c.next_of-next.result)
    (to_z w64 (of_z w64 c.later_start-later.result)) c.cover.result.now.runs c.args.seen.now.runs so_far c.has_next.ensures c.loop-alloc-test.true c.next_of-next.ensures.next
    (passed_on c.later_start-later.result (later_start c.args.copy.now e) later_fits starts) c.cover.ensures told.cover

pub pass_told-requires-clause-some : goal.pass_told-requires-clause-some
pass_told-requires-clause-some g c =
    let start_fits : FitsSigned w64 c.args.start = search rules in
    let so_far = c.loop-alloc.invariant c.requires.0 (told_from c.args.start _ (g.T.Telling.tells c.args.told) _ c.requires.0 (to_z-of_z w64 c.args.start start_fits) c.requires.1) in
    taken_is c.loop-alloc.kept so_far.entries (g.T.Telling.tells c.loop-alloc.told) c.of_told-of_told.result (step_of c.next_of-next.result) so_far.told c.next_of-next.ensures.next c.of_told-of_told.ensures

pub loop-alloc-smaller : goal.loop-alloc-smaller
loop-alloc-smaller g c =
    let start_fits : FitsSigned w64 c.args.start = search rules in
    let so_far = c.loop-alloc.invariant c.requires.0 (told_from c.args.start _ (g.T.Telling.tells c.args.told) _ c.requires.0 (to_z-of_z w64 c.args.start start_fits) c.requires.1) in
    shorter_by c.loop-alloc.kept c.pass_batches.new.self so_far.entries (g.T.Telling.tells c.loop-alloc.told) c.of_kept-of_kept.result c.of_told-of_told.result (g.T.Telling.left c.loop-alloc.told) (g.T.Telling.left c.pass_told.new.told) c.has_next.result (step_of c.next_of-next.result)
    so_far.told c.has_next.ensures c.loop-alloc-test.true c.next_of-next.ensures.next c.pass_batches.ensures c.of_kept-of_kept.ensures c.of_told-of_told.ensures c.pass_told.ensures.shorter

pub loop-alloc-preserved : goal.loop-alloc-preserved
loop-alloc-preserved g c e told =
    let later_fits : FitsSigned w64 c.later_start-later.result = search rules in
    let starts = later_is c.args.copy.now e _ _ c.later_start-later.result (g.T.Telling.tells c.args.told) _ told refl c.later_start-later.ensures in
    let so_far = c.loop-alloc.invariant e told in
    plan_step c.args.copy.now e c.loop-alloc.kept (g.T.Telling.tells c.loop-alloc.told) c.loop-alloc.plan.turns.items (g.S.BatchStore.batches c.loop-alloc.plan.more) c.has_next.result (step_of c.next_of-next.result)
    (to_z w64 (of_z w64 c.later_start-later.result)) c.cover.result.now.runs c.args.seen.now.runs so_far c.has_next.ensures c.loop-alloc-test.true c.next_of-next.ensures.next
    (passed_on c.later_start-later.result (later_start c.args.copy.now e) later_fits starts) c.cover.ensures told.cover
    c.of_kept-of_kept.result c.of_told-of_told.result c.pass_batches.new.self (g.T.Telling.tells c.pass_told.new.told) c.plan_next.new.plan.turns.items (g.S.BatchStore.batches c.plan_next.new.plan.more)
    c.pass_batches.ensures c.of_kept-of_kept.ensures c.of_told-of_told.ensures c.pass_told.ensures.passes c.in_ok-plan_next.ensures

pub returns : goal.returns
returns g c e told =
    let start_fits : FitsSigned w64 c.args.start = search rules in
    let so_far = c.loop-alloc.invariant e (told_from c.args.start _ (g.T.Telling.tells c.args.told) _ e (to_z-of_z w64 c.args.start start_fits) told) in
    all_planned c.args.copy.now e c.loop-alloc.kept (g.T.Telling.tells c.loop-alloc.told) c.loop-alloc.plan.turns.items (g.S.BatchStore.batches c.loop-alloc.plan.more) c.has_next.result so_far c.has_next.ensures c.loop-alloc-test.false
