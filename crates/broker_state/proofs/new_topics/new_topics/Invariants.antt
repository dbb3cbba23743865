use Rattle.std.proofs.Common.{◌≡◌, take}
use Rattle.std.specs.Prelude.{map}
use Rattle.broker_state.specs.ConfigValues.{topic_config}
use Rattle.broker_state.specs.Parts.{new_parts}
use Rattle.broker_state.proofs.new_topics.new_topics.Given as goal

abbrev pub invariant-loop-topic : goal.invariant-loop-topic
invariant-loop-topic g l = l.topics.items ≡ map (λ t. new_parts l.config.role (topic_config t)) (take l.topic-index l.topic-items)
