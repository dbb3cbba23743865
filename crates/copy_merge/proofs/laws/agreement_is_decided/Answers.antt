use Rattle.copy_merge.proofs.Deciding.{decided}
use Rattle.copy_merge.proofs.laws.agreement_is_decided.Goals as goal

pub returns : goal.returns
returns c = decided
