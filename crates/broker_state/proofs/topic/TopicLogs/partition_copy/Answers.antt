use Rattle.std.proofs.Common.{Some, sym, ap, ◌∙◌}
use Rattle.broker_state.proofs.PlacedTopics.{copy_in_topic}
use Rattle.broker_state.proofs.topic.TopicLogs.partition_copy.Goals as goal

pub returns : goal.returns
returns g c =
    copy_in_topic c.self.inside.name.items c.self.inside.partitions.items c.args.self.now c.args.index c.index.result.now c.self.view_is c.requires c.index.ensures
    ∙ ap (λ c. Some c) (sym c.copy.ensures)
