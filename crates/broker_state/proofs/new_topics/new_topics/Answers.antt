use Rattle.std.proofs.Common.{ap, ◌∙◌}
use Rattle.broker_state.specs.State.{group_topic}
use Rattle.broker_state.specs.ConfigValues.{topic_config}
use Rattle.broker_state.specs.Parts.{new_parts}
use Rattle.broker_state.proofs.NewTopics.{all_made, more_made}
use Rattle.broker_state.proofs.new_topics.new_topics.Goals as goal

pub returns : goal.returns
returns g c =
    all_made c.args.config.now.role topic_config c.deref-topic-items.result.now c.args.config.now.topics.items c.loop-topic.topic-index c.loop-topic.topics.items _ c.in_ok-new-2.field-0
    (record { name = group_topic; partitions = 1 }) c.loop-topic.invariant c.loop-topic-test.false c.deref-topic-items.ensures.value c.in_ok-new-2.ensures c.in_ok-push-2.ensures.items

pub loop-topic-preserved : goal.loop-topic-preserved
loop-topic-preserved g c =
    more_made c.args.config.now.role topic_config c.deref-topic-items.result.now c.loop-topic.topic-index c.topic-item.result c.loop-topic.topics.items c.push.new.self.items c.in_ok-new.field-0 c.loop-topic-test.true c.topic-item.is c.loop-topic.invariant
    (c.in_ok-new.ensures ∙ ap (λ name. new_parts c.args.config.now.role (record { name = name; partitions = c.topic-item.result.partitions })) c.as_bytes.ensures.value) c.in_ok-push.ensures.items
