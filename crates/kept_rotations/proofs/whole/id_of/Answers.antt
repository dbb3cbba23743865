use Rattle.std.proofs.Common.{rules}
use Rattle.kept_rotations.proofs.Ids.{id_is}
use Rattle.kept_rotations.proofs.whole.id_of.Goals as goal

pub returns : goal.returns
returns c = id_is c.args.number c.args.key.now c.cast_signed.result c.from_be_bytes.result (search rules) (search rules) (search rules) (search rules)
