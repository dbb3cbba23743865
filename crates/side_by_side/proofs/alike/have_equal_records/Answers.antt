use Rattle.std.proofs.Common.{◌≡◌, ℤ, ap, ◌∙◌, rules, FitsSigned, to_z, of_z}
use Rattle.std.specs.Int.{w32}
use Rattle.std.proofs.lemmas.Int.{to_z-of_z}
use Rattle.side_by_side.specs.RecordWalks.{WalkAlike, at_delta, behind_delta}
use Rattle.side_by_side.proofs.CommonRecords.{alike_not, alike_next}
use Rattle.side_by_side.proofs.alike.have_equal_records.Goals as goal

pub returns-then-not-is_alike_or_none : goal.returns-then-not-is_alike_or_none
returns-then-not-is_alike_or_none c =
    let fits : FitsSigned w32 c.in-Some.rec.delta = search rules in
    let same : to_z w32 (of_z w32 c.in-Some.rec.delta) ≡ c.in-Some.rec.delta = to_z-of_z w32 c.in-Some.rec.delta fits in
    alike_not c.loop-rec.rec-iterator c.next.new.self c.loop-rec.walk c.in-Some.rec c.at-other.result c.is_alike_or_none.result (WalkAlike c.args.x.now.recs c.args.y.now.recs)
    c.in-Some.ensures.steps (c.at-other.ensures.finds ∙ ap (λ (d : ℤ). at_delta d c.loop-rec.walk) same) c.is_alike_or_none.ensures c.if-not-is_alike_or_none.true c.loop-rec.invariant.2

pub loop-rec-preserved : goal.loop-rec-preserved
loop-rec-preserved c =
    let fits : FitsSigned w32 c.in-Some.rec.delta = search rules in
    let same : to_z w32 (of_z w32 c.in-Some.rec.delta) ≡ c.in-Some.rec.delta = to_z-of_z w32 c.in-Some.rec.delta fits in (
      tt,
      tt,
      alike_next c.loop-rec.rec-iterator c.next.new.self c.loop-rec.walk c.at-other.new.self c.in-Some.rec c.at-other.result (WalkAlike c.args.x.now.recs c.args.y.now.recs)
          c.in-Some.ensures.steps (c.at-other.ensures.finds ∙ ap (λ (d : ℤ). at_delta d c.loop-rec.walk) same) (c.at-other.ensures.passes ∙ ap (λ (d : ℤ). behind_delta d c.loop-rec.walk) same) (c.is_alike_or_none.ensures.0 c.if-not-is_alike_or_none.false) c.loop-rec.invariant.2,
    )
