use Rattle.delta_bytes.proofs.DeltaAgain.{one_refusal}
use Rattle.delta_bytes.proofs.laws.one_refusal.Goals as goal

pub returns : goal.returns
returns c = one_refusal
