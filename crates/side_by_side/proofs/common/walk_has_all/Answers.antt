use Rattle.std.proofs.Common.{◌≡◌, ℤ, ap, ◌∙◌, rules, FitsSigned, to_z, of_z}
use Rattle.std.specs.Int.{w32}
use Rattle.std.proofs.lemmas.Int.{to_z-of_z}
use Rattle.side_by_side.specs.RecordWalks.{at_delta, behind_delta}
use Rattle.side_by_side.proofs.CommonRecords.{has_not, has_next}
use Rattle.side_by_side.proofs.common.walk_has_all.Goals as goal

pub returns-then-is_none : goal.returns-then-is_none
returns-then-is_none c =
    let fits : FitsSigned w32 c.in-Some.rec.delta = search rules in
    let same : to_z w32 (of_z w32 c.in-Some.rec.delta) ≡ c.in-Some.rec.delta = to_z-of_z w32 c.in-Some.rec.delta fits in
    has_not c.loop-rec.rec-iterator c.next.new.self c.loop-rec.walk c.in-Some.rec c.at.result c.is_none.result _ c.in-Some.ensures.steps (c.at.ensures.finds ∙ ap (λ (d : ℤ). at_delta d c.loop-rec.walk) same) c.is_none.ensures c.if-is_none.true c.loop-rec.invariant.2

pub loop-rec-preserved : goal.loop-rec-preserved
loop-rec-preserved c =
    let fits : FitsSigned w32 c.in-Some.rec.delta = search rules in
    let same : to_z w32 (of_z w32 c.in-Some.rec.delta) ≡ c.in-Some.rec.delta = to_z-of_z w32 c.in-Some.rec.delta fits in
    (tt, tt, has_next c.loop-rec.rec-iterator c.next.new.self c.loop-rec.walk c.at.new.self c.in-Some.rec c.at.result c.is_none.result _ c.in-Some.ensures.steps (c.at.ensures.finds ∙ ap (λ (d : ℤ). at_delta d c.loop-rec.walk) same) (c.at.ensures.passes ∙ ap (λ (d : ℤ). behind_delta d c.loop-rec.walk) same) c.is_none.ensures c.if-is_none.false c.loop-rec.invariant.2)
