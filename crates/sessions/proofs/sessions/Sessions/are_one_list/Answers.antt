use Rattle.sessions.proofs.OneOrder.{in_order}
use Rattle.sessions.proofs.sessions.Sessions.are_one_list.Goals as goal

pub returns : goal.returns
returns g c = in_order c.args.self.now.world
