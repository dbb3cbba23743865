use Rattle.std.proofs.Common.{rules, inl, inr, subst, ap, ◌∙◌, ◌≡◌, ℕ, ◌≤◌, List, length}
use Rattle.std.specs.Prelude.{ℤ, pos, ◌<ℤ◌, FitsSigned}
use Rattle.std.specs.Int.{w32, w64}
use Rattle.batch_codec.specs.Fields.{signed_at}
use Rattle.copy_images.specs.declared.layout.TheConstants.{COUNT_SIZE}
use Rattle.copy_images.specs.Refusals.{HasStart, body_in, range_count}
use Rattle.copy_images.proofs.Parts.{below_zero, started, front_found}
use Rattle.copy_images.proofs.front.parts_of.Goals as goal

pub returns-clause-starts : goal.returns-clause-starts
returns-clause-starts c =
    let fits : FitsSigned w64 c.start_of-start.result = search rules in
    started c.args.bytes.now c.start_of-start.result c.is_log_start.result c.start_of-start.ensures fits c.is_log_start.ensures c.if-not-is_log_start.false

pub returns-in_default-clause-refuses : goal.returns-in_default-clause-refuses
returns-in_default-clause-refuses c own =
    let fits : FitsSigned w64 c.start_of-start.result = search rules in
    let count_fits : FitsSigned w32 c.be_i32_at.result = search rules in
    let has : HasStart c.args.bytes.now = ((c.requires, own), started c.args.bytes.now c.start_of-start.result c.is_log_start.result c.start_of-start.ensures fits c.is_log_start.ensures c.if-not-is_log_start.false) in
    let body = c.body_of-body.ensures in
    let place : COUNT_SIZE ≤ length (body_in c.args.bytes.now) = subst (λ (x : List ℕ). COUNT_SIZE ≤ length x) body c.if-body-lt-COUNT_SIZE.false in
    let less : c.be_i32_at.result <ℤ pos 0 = below_zero c.be_i32_at.result count_fits c.in_default.ensures in
    let read : c.be_i32_at.result ≡ range_count (body_in c.args.bytes.now) = c.be_i32_at.ensures ∙ ap (signed_at w32 0) body in
    inr (inl (has, place, subst (λ (z : ℤ). z <ℤ pos 0) read less))

pub returns-clause-finds : goal.returns-clause-finds
returns-clause-finds c =
    let fits : FitsSigned w32 c.be_i32_at.result = search rules in
    let count_fits : FitsSigned w32 c.be_i32_at-2.result = search rules in
    front_found c.args.bytes.now c.body_of-body.result.now c.in-Ok.count c.as_chunks.result.0.now c.be_i32_at.result c.be_i32_at-2.result (λ i. (c.type_inv.bytes i).fits) c.body_of-body.ensures c.be_i32_at.ensures fits c.in-Ok.ensures.0 c.in-Ok.ensures.1
    c.if-body-ranges_size.false c.as_chunks.ensures.front c.be_i32_at-2.ensures count_fits
