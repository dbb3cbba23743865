use Rattle.deltas.proofs.CopyEvents.{either_order}
use Rattle.deltas.proofs.exchanging.answers_come_in_either_order.Goals as goal

pub returns : goal.returns
returns c = either_order
