use Rattle.cleaning_policy.proofs.Turning.{has_its_turn}
use Rattle.cleaning_policy.proofs.laws.a_due_partition_has_its_turn.Goals as goal

pub returns : goal.returns
returns c = has_its_turn
