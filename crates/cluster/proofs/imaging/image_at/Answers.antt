use Rattle.std.proofs.Common.{arith}
use Rattle.std.proofs.lemmas.Option.{gets, slice_get-map}
use Rattle.cluster.proofs.imaging.image_at.Goals as goal

pub returns : goal.returns
returns g c = grind (arith, gets, slice_get-map)
