use Rattle.broker_state.specs.ConfigValues.{config_value}
use Rattle.broker_state.proofs.SoundStates.{sound_of}
use Rattle.broker_state.proofs.state.BrokerState.know_sound.Goals as goal

pub returns : goal.returns
returns g c = sound_of (config_value c.self.inside.config) c.self.inside.topics.items c.self.inside.next_producer c.args.self.now c.self.view_is c.self.invariant.0 c.self.invariant.1 c.self.invariant.2 c.self.invariant.3
