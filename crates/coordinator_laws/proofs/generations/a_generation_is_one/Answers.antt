use Rattle.coordinator_laws.proofs.Numbering.{one_beginning}
use Rattle.coordinator_laws.proofs.generations.a_generation_is_one.Goals as goal

pub returns : goal.returns
returns c = one_beginning
