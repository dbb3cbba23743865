use Rattle.sessions.proofs.OneOrder.{one_order}
use Rattle.sessions.proofs.laws.many_clients_are_one_list.Goals as goal

pub returns : goal.returns
returns c = one_order
