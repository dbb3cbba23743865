use Rattle.std.proofs.Common.{subst, rules, ap, ◌∙◌, ◌+◌, length}
use Rattle.std.specs.Prelude.{ℕ, ℤ, List, FitsSigned}
use Rattle.std.specs.Int.{w64}
use Rattle.std.proofs.lemmas.Int.{to_z-of_z}
use Rattle.copy_images.specs.Refusals as images
use Rattle.copy_images.specs.Judging.{ranges_of}
use Rattle.delta_bytes.proofs.NextEntry.{sent_accepted, sent_unseen}
use Rattle.delta_bytes.proofs.entry.judge_sent.Goals as goal

pub returns-then-not-is_span_within-clause-refuses : goal.returns-then-not-is_span_within-clause-refuses
returns-then-not-is_span_within-clause-refuses c =
    sent_unseen (ranges_of c.args.ranges.now) (ranges_of c.args.asked.now) c.args.low c.in-Some.batch c.args.bytes.now c.is_span_within.result (subst (λ (z : ℤ). images.IsNext z c.in-Some.batch c.args.bytes.now) (to_z-of_z w64 c.args.low c.ranges.low) c.in-Some.ensures) c.is_span_within.ensures c.if-not-is_span_within.true

pub returns-clause-accepts : goal.returns-clause-accepts
returns-clause-accepts c =
    let fits : FitsSigned w64 c.last_offset.result = search rules in
    sent_accepted (ranges_of c.args.ranges.now) (ranges_of c.args.asked.now) c.args.low c.in-Some.batch c.args.bytes.now _ _ c.is_span_within.result (subst (λ (z : ℤ). images.IsNext z c.in-Some.batch c.args.bytes.now) (to_z-of_z w64 c.args.low c.ranges.low) c.in-Some.ensures) c.is_span_within.ensures c.if-not-is_span_within.false
    (to_z-of_z w64 c.last_offset.result fits ∙ c.last_offset.ensures) (ap (λ (x : List ℕ). 1 + length x) c.bytes.ensures.encoding)
