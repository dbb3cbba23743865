-- Configurations of brokers that listen.
use Rattle.std.specs.Prelude.{ℕ}
use Rattle.broker_state.specs.State.{ConfigValue}

-- the same broker at another port
abbrev pub at_port : ConfigValue → ℕ → ConfigValue
at_port g port = record g { port = port }
