use Rattle.std.proofs.Common.{rules, ap, ◌∙◌, take_all}
use Rattle.std.specs.Prelude.{map}
use Rattle.broker_state.specs.ConfigValues.{topic_config}
use Rattle.kept_starts.proofs.Asked.{one_again}
use Rattle.kept_starts.proofs.configuration.topics_again.Goals as goal

pub loop-topic-preserved : goal.loop-topic-preserved
loop-topic-preserved g c =
    ap (map topic_config) c.in_ok-push.ensures.items
    ∙ one_again topic_config c.args.topics.now c.loop-topic.again.items c.loop-topic.topic-index c.topic-item.result c.in_ok-topic_again.field-0 _
    (search rules) c.topic-item.is c.loop-topic.invariant c.in_ok-topic_again.ensures

pub returns : goal.returns
returns g c = c.loop-topic.invariant ∙ ap (map topic_config) (take_all c.loop-topic.topic-index c.args.topics.now (search rules))
