use Rattle.std.proofs.Common.{rules}
use Rattle.cluster.proofs.cluster.Cluster.step.Goals as goal

pub returns-clause-steps : goal.returns-clause-steps
returns-clause-steps c = search rules
