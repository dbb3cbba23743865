use Rattle.std.proofs.Common.{rules, ◌∙◌}
use Rattle.std.specs.Prelude.{FitsSigned}
use Rattle.std.specs.Int.{w64}
use Rattle.std.proofs.lemmas.Int.{to_z-of_z}
use Rattle.copy_images.specs.Judging.{ranges_of}
use Rattle.delta_bytes.proofs.WholeDelta.{is_delta_at, in_body}
use Rattle.delta_bytes.proofs.delta.judge_delta.Goals as goal

pub returns-in-Ok-judge_body-clause-accepts_a_delta : goal.returns-in-Ok-judge_body-clause-accepts_a_delta
returns-in-Ok-judge_body-clause-accepts_a_delta c =
    let fits : FitsSigned w64 c.in-Ok.start = search rules in
    let body = c.in-Ok-judge_body.body in
    is_delta_at c.args.bytes.now c.body_of.result.now _ (ranges_of body.ranges.now) (ranges_of body.asked.now) body.entries.now (λ i. (c.type_inv.bytes i).fits) c.in-Ok.ensures.passes (to_z-of_z w64 c.in-Ok.start fits ∙ c.in-Ok.ensures.start) c.body_of.ensures c.in-Ok-judge_body.ensures.accepts

pub returns-in-Err-judge_body-clause-refuses_for_the_first_fault : goal.returns-in-Err-judge_body-clause-refuses_for_the_first_fault
returns-in-Err-judge_body-clause-refuses_for_the_first_fault c =
    let fits : FitsSigned w64 c.in-Ok.start = search rules in
    in_body c.args.bytes.now c.body_of.result.now _ c.in-Err-judge_body.fault c.in-Ok.ensures.passes (to_z-of_z w64 c.in-Ok.start fits ∙ c.in-Ok.ensures.start) c.body_of.ensures c.in-Err-judge_body.ensures.refuses_for_the_first_fault
