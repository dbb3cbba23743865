use Rattle.std.proofs.Common.{◌≤◌, length, sym, ◌∙◌}
use Rattle.broker_state.specs.declared.limits.TheConstants.{MAX_PARTITIONS}
use Rattle.broker_state.specs.ConfigValues.{config_value}
use Rattle.broker_state.proofs.Shapes.{few_in_each}
use Rattle.broker_state.proofs.PlacedTopics.{index_in, no_topic, topic_here, holds_here}
use Rattle.broker_state.proofs.state.BrokerState.topic.Goals as goal

pub returns-in-Some-clause-is_there : goal.returns-in-Some-clause-is_there
returns-in-Some-clause-is_there g c =
    topic_here c.self.inside.topics.items c.args.name.now c.in-Some.index c.index.result.now
    (index_in c.deref.result.now c.self.inside.topics.items c.args.name.now _ c.deref.ensures.value (sym c.in-Some.is ∙ c.topic_index.ensures)) c.index.ensures
    (config_value c.self.inside.config) c.args.self.now c.self.view_is

pub returns-in-Some-clause-few_partitions : goal.returns-in-Some-clause-few_partitions
returns-in-Some-clause-few_partitions g c =
    holds_here c.self.inside.topics.items c.args.name.now c.in-Some.index c.index.result.now
    (index_in c.deref.result.now c.self.inside.topics.items c.args.name.now _ c.deref.ensures.value (sym c.in-Some.is ∙ c.topic_index.ensures)) c.index.ensures
    (λ t. length t.partitions ≤ MAX_PARTITIONS) (few_in_each (config_value c.self.inside.config) c.self.inside.topics.items c.self.invariant.0.valid c.self.invariant.1)

pub returns-in-None-clause-is_there : goal.returns-in-None-clause-is_there
returns-in-None-clause-is_there g c =
    no_topic c.self.inside.topics.items c.args.self.now (config_value c.self.inside.config) c.args.name.now c.self.view_is
    (index_in c.deref.result.now c.self.inside.topics.items c.args.name.now _ c.deref.ensures.value (sym c.in-None.is ∙ c.topic_index.ensures))
