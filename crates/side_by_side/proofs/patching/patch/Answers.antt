use Rattle.std.proofs.Common.{◌≡◌, List, ap, ◌∙◌, rules, FitsSigned, to_z, of_z}
use Rattle.std.specs.Int.{w64}
use Rattle.std.proofs.lemmas.Int.{to_z-of_z}
use Rattle.segment.specs.declared.turn.Turn.{Turn}
use Rattle.segment.specs.Weaving.{woven}
use Rattle.deltas.specs.Patches.{later_start}
use Rattle.side_by_side.specs.Telling.{IsTold}
use Rattle.side_by_side.proofs.Agreeing.{passed_on}
use Rattle.side_by_side.proofs.JudgedSteps.{later_is, told_from}
use Rattle.side_by_side.proofs.Patched.{content_from, woven_is, woven_content, patched_on_ok}
use Rattle.side_by_side.proofs.patching.patch.Goals as goal

pub weave-requires : goal.weave-requires
weave-requires g c =
    let e = c.requires.0 in
    let told = c.requires.1 in
    let start_fits : FitsSigned w64 c.args.start = search rules in
    let later_fits : FitsSigned w64 c.later_start-later.result = search rules in
    let starts = later_is c.args.copy.now e c.args.start _ c.later_start-later.result (g.T.Telling.tells c.args.told) _ told (to_z-of_z w64 c.args.start start_fits) c.later_start-later.ensures in
    woven_content c.args.copy.now e (to_z w64 (of_z w64 c.later_start-later.result)) c.in_ok-cover.cover.runs c.args.seen.now.runs (woven c.deref.result.now c.args.copy.now.kept (g.S.BatchStore.batches c.in_ok-turns.field-0.more))
    c.know_content.ensures told.valid (passed_on c.later_start-later.result (later_start c.args.copy.now e) later_fits starts) told.cover c.in_ok-cover.ensures
    (ap (λ (ts : List Turn). woven ts c.args.copy.now.kept (g.S.BatchStore.batches c.in_ok-turns.field-0.more)) c.deref.ensures.value ∙ c.in_ok-turns.ensures e (told_from c.args.start _ (g.T.Telling.tells c.args.told) _ e (to_z-of_z w64 c.args.start start_fits) told))

pub returns-clause-patches : goal.returns-clause-patches
returns-clause-patches g c =
    let start_fits : FitsSigned w64 c.args.start = search rules in
    let later_fits : FitsSigned w64 c.later_start-later.result = search rules in
    patched_on_ok c.weave.result c.args.copy.now c.weave.new.self
    (content_from (to_z w64 (of_z w64 c.later_start-later.result)) c.in_ok-cover.cover.runs (woven c.deref.result.now c.args.copy.now.kept (g.S.BatchStore.batches c.in_ok-turns.field-0.more)))
    (IsTold c.args.start (g.T.Telling.tells c.args.told) (λ runs. c.args.seen.now.runs ≡ runs)) c.weave.ensures.weaves
    (λ e told.
    let starts = later_is c.args.copy.now e c.args.start _ c.later_start-later.result (g.T.Telling.tells c.args.told) _ told (to_z-of_z w64 c.args.start start_fits) c.later_start-later.ensures in
    woven_is c.args.copy.now e (to_z w64 (of_z w64 c.later_start-later.result)) c.in_ok-cover.cover.runs c.args.seen.now.runs (woven c.deref.result.now c.args.copy.now.kept (g.S.BatchStore.batches c.in_ok-turns.field-0.more))
    (passed_on c.later_start-later.result (later_start c.args.copy.now e) later_fits starts) told.cover c.in_ok-cover.ensures
    (ap (λ (ts : List Turn). woven ts c.args.copy.now.kept (g.S.BatchStore.batches c.in_ok-turns.field-0.more)) c.deref.ensures.value ∙ c.in_ok-turns.ensures e (told_from c.args.start _ (g.T.Telling.tells c.args.told) _ e (to_z-of_z w64 c.args.start start_fits) told)))
