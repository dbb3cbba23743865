use Rattle.copy_deltas.proofs.Decided.{acceptance_decided}
use Rattle.copy_deltas.proofs.laws.acceptance_is_decided.Goals as goal

pub returns : goal.returns
returns c = acceptance_decided
