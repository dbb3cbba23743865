use Rattle.delta_bytes.proofs.OneEntry.{next_once}
use Rattle.delta_bytes.proofs.laws.one_entry.Goals as goal

pub returns : goal.returns
returns c = next_once
