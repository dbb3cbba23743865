use Rattle.coordinator_laws.proofs.Numbering.{leaders_give}
use Rattle.coordinator_laws.proofs.generations.leaders_give_the_parts.Goals as goal

pub returns : goal.returns
returns c = leaders_give
