use Rattle.std.specs.Prelude.{nat_lt}
use Rattle.broker_state.specs.ConfigValues.{config_value, topic_config}
use Rattle.broker_state.specs.State.{TopicConfig}
use Rattle.kept_starts.specs.Growth.{partitions_said}
use Rattle.kept_starts.proofs.Asked.{any_asked}
use Rattle.kept_starts.proofs.configuration.asks_more.Goals as goal

pub returns : goal.returns
returns g c =
    any_asked topic_config (λ (t : TopicConfig). nat_lt (partitions_said (config_value c.args.had.now) t.name) t.partitions)
    c.args.asked.now.topics.items c.deref.result.now _ c.any_more.ensures c.deref.ensures.value
