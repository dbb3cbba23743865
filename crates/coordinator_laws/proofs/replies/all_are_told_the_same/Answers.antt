use Rattle.coordinator_laws.proofs.Telling.{told_alike}
use Rattle.coordinator_laws.proofs.replies.all_are_told_the_same.Goals as goal

pub returns : goal.returns
returns c = told_alike
