use Rattle.std.proofs.Common.{arith}
use Rattle.std.proofs.lemmas.Option.{gets}
use Rattle.cluster.proofs.cluster.Cluster.archived.Goals as goal

pub returns : goal.returns
returns g c = grind (arith, gets)
