use Rattle.deltas.proofs.Holding.{held_by_receiver, held_by_sender}
use Rattle.deltas.proofs.records.no_dropped_record_comes_back.Goals as goal

pub returns : goal.returns
returns c = record { receiver = held_by_receiver; sender = held_by_sender }
