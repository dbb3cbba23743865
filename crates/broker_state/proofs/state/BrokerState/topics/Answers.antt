use Rattle.std.proofs.Common.{◌≤◌, length, sym, subst}
use Rattle.std.specs.List.{All}
use Rattle.broker_state.specs.declared.limits.TheConstants.{MAX_PARTITIONS}
use Rattle.broker_state.specs.ConfigValues.{config_value}
use Rattle.broker_state.proofs.Shapes.{few_partitions}
use Rattle.broker_state.proofs.state.BrokerState.topics.Goals as goal

pub returns-clause-few_partitions : goal.returns-clause-few_partitions
returns-clause-few_partitions g c =
    subst (λ ts. All (λ t. length t.partitions ≤ MAX_PARTITIONS) ts) (sym c.deref.ensures.value)
    (few_partitions (config_value c.self.inside.config) c.self.inside.topics.items c.self.invariant.0.valid c.self.invariant.1)
