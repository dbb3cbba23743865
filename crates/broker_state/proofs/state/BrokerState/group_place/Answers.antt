use Rattle.broker_state.proofs.GroupPlace.{group_is_there}
use Rattle.broker_state.proofs.state.BrokerState.group_place.Goals as goal

pub unreachable-requires : goal.unreachable-requires
unreachable-requires g c = group_is_there c.args.self.now c.know_sound.ensures c.in-None.ensures.unknown
