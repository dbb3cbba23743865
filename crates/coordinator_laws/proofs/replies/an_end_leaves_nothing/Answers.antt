use Rattle.coordinator_laws.proofs.Replying.{ended_none}
use Rattle.coordinator_laws.proofs.replies.an_end_leaves_nothing.Goals as goal

pub returns : goal.returns
returns c = ended_none
