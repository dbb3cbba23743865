use Rattle.coordinator_laws.proofs.Admitting.{heartbeat_done, heartbeat_of}
use Rattle.coordinator_laws.proofs.standing.heartbeats_are_done.Goals as goal

pub returns : goal.returns
returns c k client name n id v = (heartbeat_done k client name n id v, (λ x. heartbeat_of k client name n id v x.0 x.1))
