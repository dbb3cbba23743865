use Rattle.std.proofs.Common.{arith}
use Rattle.std.proofs.lemmas.Grind.{common_steps}
use Rattle.responses.proofs.parts.set_count.Goals as goal

pub returns-clause-sets : goal.returns-clause-sets
returns-clause-sets c c' = grind (arith, common_steps)
