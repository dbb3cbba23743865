use Rattle.coordinator_laws.proofs.Telling.{told_is_so}
use Rattle.coordinator_laws.proofs.replies.joins_tell_of_a_generation.Goals as goal

pub returns : goal.returns
returns c = told_is_so
