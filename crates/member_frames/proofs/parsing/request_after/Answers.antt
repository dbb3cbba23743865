use Rattle.std.proofs.Common.{arith}
use Rattle.frame_fields.specs.declared.error.FieldFault.TheVariants as field
use Rattle.member_frames.proofs.WholeMembers.{all_read, bytes_left, fault_found, correlates, empty_length, some_length}
use Rattle.member_frames.proofs.parsing.request_after.Goals as goal

pub returns-in-Err-ShortBody-clause-refuses : goal.returns-in-Err-ShortBody-clause-refuses
returns-in-Err-ShortBody-clause-refuses c = fault_found c.args.api c.args.frame.now (λ i. omega (arith, c.type_inv.frame i)) c.requires.is_of_api c.split_at.result.1.now c.split_at.ensures.back c.in-Err-ShortBody.field-0 field.ShortBody c.in-Err-ShortBody.field-0-is c.in-Err-ShortBody.ensures

pub returns-in-Err-Malformed-clause-refuses : goal.returns-in-Err-Malformed-clause-refuses
returns-in-Err-Malformed-clause-refuses c = fault_found c.args.api c.args.frame.now (λ i. omega (arith, c.type_inv.frame i)) c.requires.is_of_api c.split_at.result.1.now c.split_at.ensures.back c.in-Err-Malformed.field-0 field.Malformed c.in-Err-Malformed.field-0-is c.in-Err-Malformed.ensures

pub returns-then-is_empty-clause-reads : goal.returns-then-is_empty-clause-reads
returns-then-is_empty-clause-reads c =
    let none_left = empty_length _ _ c.is_empty.ensures c.if-is_empty.true in
    correlates c.args.frame.now c.args.api c.args.correlation _ c.ranges.correlation c.requires.correlates
    (all_read c.args.api c.args.frame.now (λ i. omega (arith, c.type_inv.frame i)) c.requires.is_of_api c.split_at.result.1.now c.split_at.ensures.back _ _ c.in-Ok.ensures none_left)

pub returns-else-is_empty-clause-refuses : goal.returns-else-is_empty-clause-refuses
returns-else-is_empty-clause-refuses c =
    let some_left = some_length _ _ c.is_empty.ensures c.if-is_empty.false in
    bytes_left c.args.api c.args.frame.now (λ i. omega (arith, c.type_inv.frame i)) c.requires.is_of_api c.split_at.result.1.now c.split_at.ensures.back _ _ c.in-Ok.ensures some_left
