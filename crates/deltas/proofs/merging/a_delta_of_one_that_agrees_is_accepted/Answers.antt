use Rattle.deltas.proofs.Accepted.{delta_accepted}
use Rattle.deltas.proofs.merging.a_delta_of_one_that_agrees_is_accepted.Goals as goal

pub returns : goal.returns
returns c = delta_accepted
