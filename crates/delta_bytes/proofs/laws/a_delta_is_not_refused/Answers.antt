use Rattle.delta_bytes.proofs.DeltaAgain.{no_fault}
use Rattle.delta_bytes.proofs.laws.a_delta_is_not_refused.Goals as goal

pub returns : goal.returns
returns c = no_fault
