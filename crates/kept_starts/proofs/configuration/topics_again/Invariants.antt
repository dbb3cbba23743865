use Rattle.std.proofs.Common.{◌≡◌, take}
use Rattle.std.specs.Prelude.{map}
use Rattle.broker_state.specs.ConfigValues.{topic_config}
use Rattle.kept_starts.proofs.configuration.topics_again.Given as goal

abbrev pub invariant-loop-topic : goal.invariant-loop-topic
invariant-loop-topic g l = map topic_config l.again.items ≡ map topic_config (take l.topic-index l.topics)
