use Rattle.group_coordinator.specs.Doing.{chooses}
use Rattle.group_coordinator.proofs.Moves.{does_drop}
use Rattle.group_coordinator.proofs.group.MemberGroup.drop_those.Goals as goal

pub returns : goal.returns
returns g c = does_drop (chooses c.args.who) c.args.ledger.now c.refuse.new.ledger c.args.self.now c.remove.new.self c.refuse.ensures c.remove.ensures
