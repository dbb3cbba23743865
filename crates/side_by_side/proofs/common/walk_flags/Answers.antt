use Rattle.std.proofs.Common.{◌≡◌, ℤ, ap, ◌∙◌, rules, FitsSigned, to_z, of_z}
use Rattle.std.specs.Int.{w32}
use Rattle.std.proofs.lemmas.Int.{to_z-of_z}
use Rattle.side_by_side.specs.RecordWalks.{at_delta, behind_delta, walk_flags}
use Rattle.side_by_side.proofs.CommonRecords.{flags_next, flags_whole}
use Rattle.side_by_side.proofs.common.walk_flags.Goals as goal

pub loop-rec-preserved : goal.loop-rec-preserved
loop-rec-preserved g c =
    let fits : FitsSigned w32 c.in-Some.rec.delta = search rules in
    let same : to_z w32 (of_z w32 c.in-Some.rec.delta) ≡ c.in-Some.rec.delta = to_z-of_z w32 c.in-Some.rec.delta fits in (
      tt,
      tt,
      flags_next c.loop-rec.keep.items c.push.new.self.items (walk_flags c.args.x.now.recs c.args.y.now.recs) c.loop-rec.rec-iterator c.next.new.self c.loop-rec.walk c.at.new.self c.in-Some.rec c.at.result c.is_some.result
          c.in-Some.ensures.steps (c.at.ensures.finds ∙ ap (λ (d : ℤ). at_delta d c.loop-rec.walk) same) (c.at.ensures.passes ∙ ap (λ (d : ℤ). behind_delta d c.loop-rec.walk) same) c.is_some.ensures c.in_ok-push.ensures.items c.loop-rec.invariant.2,
    )

pub returns : goal.returns
returns g c = flags_whole c.loop-rec.keep.items (walk_flags c.args.x.now.recs c.args.y.now.recs) c.loop-rec.rec-iterator c.loop-rec.walk c.in-None.ensures.steps.0 c.loop-rec.invariant.2
