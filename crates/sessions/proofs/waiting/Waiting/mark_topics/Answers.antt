use Rattle.std.proofs.Common.{ap}
use Rattle.frame_fields.specs.Arrays.{values}
use Rattle.frame_fields.specs.Types.{topic}
use Rattle.request_frames.specs.Produce.{produce_partition}
use Rattle.sessions.proofs.Marked.{all_marked, first_topic, some_more, topics_in}
use Rattle.sessions.proofs.waiting.Waiting.mark_topics.Goals as goal

pub loop-topic-preserved : goal.loop-topic-preserved
loop-topic-preserved g c =
    some_more c.args.state.now c.args.self.now _ c.loop-topic.self c.mark_topic.new.self _ _ _
    (first_topic (values (topic produce_partition) c.loop-topic.topic-iterator) (values (topic produce_partition) c.next.new.self) _ c.in-Some.ensures.steps) c.loop-topic.invariant c.mark_topic.ensures.marks

pub returns : goal.returns
returns g c = record { marks = all_marked c.args.state.now c.args.self.now _ c.loop-topic.self _ (ap topics_in c.in-None.ensures.steps.0) c.loop-topic.invariant }
