use Rattle.coordinator_laws.proofs.Numbering.{have_numbers}
use Rattle.coordinator_laws.proofs.generations.generations_have_numbers.Goals as goal

pub returns : goal.returns
returns c = have_numbers
