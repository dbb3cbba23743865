use Rattle.deltas.proofs.AcceptedAgain.{accepted_again}
use Rattle.deltas.proofs.patching.what_was_accepted_is_accepted_again.Goals as goal

pub returns : goal.returns
returns c = accepted_again
