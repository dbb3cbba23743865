use Rattle.delta_bytes.proofs.DeltaAgain.{delta_once}
use Rattle.delta_bytes.proofs.laws.one_delta.Goals as goal

pub returns : goal.returns
returns c = delta_once
