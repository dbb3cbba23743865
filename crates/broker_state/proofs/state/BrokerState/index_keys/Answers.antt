use Rattle.broker_state.proofs.OwnContent.{unchanged_at}
use Rattle.broker_state.proofs.state.BrokerState.index_keys.Goals as goal

pub returns : goal.returns
returns g c = record {
  unchanged =
      let made = c.change_at.ensures c.requires.0 c.requires.1 c.requires.2 in
      unchanged_at c.args.self.now c.change_at.new.self c.requires.0 c.requires.1 made.0 made.1 made.2;
}
