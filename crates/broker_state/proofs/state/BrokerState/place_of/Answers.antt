use Rattle.std.proofs.Common.{sym, ap, ◌∙◌}
use Rattle.std.specs.Int.{w32}
use Rattle.std.proofs.lemmas.Int.{to_z-of_z}
use Rattle.broker_state.specs.State.{partition_of}
use Rattle.broker_state.specs.Parts.{topic_contents}
use Rattle.broker_state.specs.ConfigValues.{config_value}
use Rattle.broker_state.proofs.PlacedTopics.{index_in, no_partition, partition_here, place_found}
use Rattle.broker_state.proofs.state.BrokerState.place_of.Goals as goal

pub returns-in_default-clause-unknown : goal.returns-in_default-clause-unknown
returns-in_default-clause-unknown g c =
    no_partition c.self.inside.topics.items c.args.self.now (config_value c.self.inside.config) c.args.topic.now c.args.partition c.self.view_is
    (index_in c.deref.result.now c.self.inside.topics.items c.args.topic.now _ c.deref.ensures.value (sym c.in_default.is ∙ c.topic_index.ensures))

pub returns-in-Some-partition_index-clause-found : goal.returns-in-Some-partition_index-clause-found
returns-in-Some-partition_index-clause-found g c =
    place_found c.self.inside.topics.items (config_value c.self.inside.config) c.args.self.now c.args.topic.now c.args.partition c.in-Some.index c.in-Some-partition_index.number c.index.result.now c.self.view_is
    (index_in c.deref.result.now c.self.inside.topics.items c.args.topic.now _ c.deref.ensures.value (sym c.in-Some.is ∙ c.topic_index.ensures)) c.index.ensures
    (sym (to_z-of_z w32 c.args.partition c.ranges.partition) ∙ c.in-Some-partition_index.ensures.found.0) c.in-Some-partition_index.ensures.found.1

pub returns-in-None-clause-unknown : goal.returns-in-None-clause-unknown
returns-in-None-clause-unknown g c =
    partition_here c.self.inside.topics.items c.args.topic.now c.in-Some.index c.index.result.now
    (index_in c.deref.result.now c.self.inside.topics.items c.args.topic.now _ c.deref.ensures.value (sym c.in-Some.is ∙ c.topic_index.ensures)) c.index.ensures
    (config_value c.self.inside.config) c.args.self.now c.args.partition c.self.view_is
    ∙ ap (λ p. partition_of p (topic_contents c.index.result.now)) (sym (to_z-of_z w32 c.args.partition c.ranges.partition)) ∙ c.in-None.ensures.unknown
