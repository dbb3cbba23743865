use Rattle.std.proofs.Common.{Some, ap}
use Rattle.cleaning_frames.proofs.ReadReplies.{reply_length, answer_read, all_read, never_broken, some_read}
use Rattle.cleaning_frames.proofs.replies.read_clean_reply.Goals as goal

pub returns-then-bytes-ne-CLEAN_REPLY_BYTES-clause-reads : goal.returns-then-bytes-ne-CLEAN_REPLY_BYTES-clause-reads
returns-then-bytes-ne-CLEAN_REPLY_BYTES-clause-reads c = λ answer is. absurd (c.if-bytes-ne-CLEAN_REPLY_BYTES.true (reply_length c.args.bytes.now answer is))

pub returns-in-Ok-clause-reads : goal.returns-in-Ok-clause-reads
returns-in-Ok-clause-reads c = λ answer is. ap Some (answer_read c.args.bytes.now answer is c.in-Ok.answer c.in-Ok.field-0-1.now c.in-Ok.ensures)

pub returns-in-Err-clause-reads : goal.returns-in-Err-clause-reads
returns-in-Err-clause-reads c = λ answer is. absurd (never_broken c.args.bytes.now answer is c.in-Err.field-0 c.in-Err.ensures)

pub returns-in-Ok-clause-read : goal.returns-in-Ok-clause-read
returns-in-Ok-clause-read c = (
  c.if-bytes-ne-CLEAN_REPLY_BYTES.false,
  all_read c.args.bytes.now (λ i. (c.type_inv.bytes i).fits) c.if-bytes-ne-CLEAN_REPLY_BYTES.false c.in-Ok.answer c.in-Ok.field-0-1.now c.in-Ok.ensures,
)

pub returns-in-Err-clause-none : goal.returns-in-Err-clause-none
returns-in-Err-clause-none c =
    absurd (some_read c.args.bytes.now (λ i. (c.type_inv.bytes i).fits) c.if-bytes-ne-CLEAN_REPLY_BYTES.false c.in-Err.field-0 c.in-Err.ensures)
