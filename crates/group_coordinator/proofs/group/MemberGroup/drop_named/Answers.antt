use Rattle.group_coordinator.specs.Members.{has_id}
use Rattle.group_coordinator.proofs.Moves.{does_drop}
use Rattle.group_coordinator.proofs.group.MemberGroup.drop_named.Goals as goal

pub returns : goal.returns
returns g c = does_drop (has_id c.args.id.now) c.args.ledger.now c.refuse_named.new.ledger c.args.self.now c.remove_named.new.self c.refuse_named.ensures c.remove_named.ensures
