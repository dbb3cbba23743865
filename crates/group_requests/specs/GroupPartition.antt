-- The partition in which groups keep their offsets. Kafka's documentation, "Consumer Offset Tracking".
use Rattle.std.specs.Prelude.{pos}
use Rattle.content.specs.Content.{Content}
use Rattle.broker_state.specs.State.{State, group_topic, content_at, with_content}

abbrev pub group_content : State → Content
group_content s = content_at s group_topic (pos 0)

abbrev pub with_group_content : State → Content → State
with_group_content s c = with_content s group_topic (pos 0) c
