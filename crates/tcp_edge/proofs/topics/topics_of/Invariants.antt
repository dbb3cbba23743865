use Rattle.std.proofs.Common.{map, take}
use Rattle.broker_state.specs.ConfigValues.{topic_config}
use Rattle.tcp_edge.specs.CommandLine.{AreTopics}
use Rattle.tcp_edge.proofs.topics.topics_of.Given as goal

abbrev pub invariant-loop-argument : goal.invariant-loop-argument
invariant-loop-argument l = AreTopics (map (λ word. word.now) (take l.argument-index l.arguments)) (map topic_config l.topics.items)
