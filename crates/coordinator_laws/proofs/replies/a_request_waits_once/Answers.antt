use Rattle.coordinator_laws.proofs.Replying.{one_waits}
use Rattle.coordinator_laws.proofs.replies.a_request_waits_once.Goals as goal

pub returns : goal.returns
returns c = one_waits
