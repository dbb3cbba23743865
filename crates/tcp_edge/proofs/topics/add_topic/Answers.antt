use Rattle.tcp_edge.proofs.TopicLists.{one_pushed}
use Rattle.tcp_edge.proofs.topics.add_topic.Goals as goal

pub returns-in-Ok-push-clause-adds : goal.returns-in-Ok-push-clause-adds
returns-in-Ok-push-clause-adds c = (
  record { name = c.in-Ok.read.0.now; partitions = c.in-Ok.read.1 },
  c.in-Ok.ensures.reads,
  one_pushed c.args.topics.now.items _ _ c.in-Ok.read.0.now c.in-Ok-push.ensures.items c.in_ok-name.ensures.ok,
)
