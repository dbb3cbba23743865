use Rattle.cleaning_policy.proofs.Waiting.{quiet}
use Rattle.cleaning_policy.proofs.laws.nothing_is_due_before.Goals as goal

pub returns : goal.returns
returns c = quiet
