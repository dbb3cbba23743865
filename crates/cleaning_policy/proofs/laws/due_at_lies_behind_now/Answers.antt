use Rattle.cleaning_policy.proofs.Waiting.{lies_behind}
use Rattle.cleaning_policy.proofs.laws.due_at_lies_behind_now.Goals as goal

pub returns : goal.returns
returns c = lies_behind
