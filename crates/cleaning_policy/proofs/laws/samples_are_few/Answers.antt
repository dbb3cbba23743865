use Rattle.cleaning_policy.proofs.Few.{are_few}
use Rattle.cleaning_policy.proofs.laws.samples_are_few.Goals as goal

pub returns : goal.returns
returns c = are_few
