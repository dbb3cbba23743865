use Rattle.copy_deltas.proofs.ToldBytes.{entries_behind}
use Rattle.copy_deltas.proofs.told.entries_of.Goals as goal

pub returns : goal.returns
returns c e are = entries_behind c.args.delta.now e are
