use Rattle.cleaning_policy.proofs.Resting.{rests}
use Rattle.cleaning_policy.proofs.laws.an_idle_partition_comes_to_rest.Goals as goal

pub returns : goal.returns
returns c = rests
