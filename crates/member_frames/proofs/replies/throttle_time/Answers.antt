use Rattle.member_frames.proofs.ReplyParts.{time_is}
use Rattle.member_frames.proofs.replies.throttle_time.Goals as goal

pub returns-then-throttled-clause-is_time : goal.returns-then-throttled-clause-is_time
returns-then-throttled-clause-is_time c = time_is c.args.throttled c.if-throttled.true
