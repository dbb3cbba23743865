use Rattle.coordinator_laws.proofs.Replying.{one_reply}
use Rattle.coordinator_laws.proofs.replies.each_request_has_one_reply.Goals as goal

pub returns : goal.returns
returns c = one_reply
