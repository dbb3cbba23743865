use Rattle.copy_requests.proofs.Deliveries.{is_taken, is_not_taken}
use Rattle.copy_requests.proofs.deliver.deliver_bytes.Goals as goal

pub returns-in-Ok-change_at : goal.returns-in-Ok-change_at
returns-in-Ok-change_at g c name p of =
    is_taken c.args.state.now c.change_at.new.self name p c.args.bytes.now c.in-Ok.batch c.in-Ok.ensures.has_no_fault c.in-Ok.ensures.is_batch c.in-Ok-change_at.delivered (let made = c.in-Ok-change_at.ensures name p of in (made.0, made.1 c.requires.follows, made.2))

pub returns-in-Err-change_at : goal.returns-in-Err-change_at
returns-in-Err-change_at g c name p of =
    is_not_taken c.args.state.now c.change_at.new.self name p c.args.bytes.now c.in-Ok.batch c.in-Ok.ensures.has_no_fault c.in-Ok.ensures.is_batch c.in-Err-change_at.fault c.deliver_refused.result c.deliver_refused.ensures (let made = c.in-Err-change_at.ensures name p of in (made.0, made.1 c.requires.follows, made.2))
