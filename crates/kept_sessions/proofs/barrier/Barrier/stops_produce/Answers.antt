use Rattle.frame_fields.specs.Arrays.{values}
use Rattle.frame_fields.specs.Types.{topic}
use Rattle.request_frames.specs.Produce.{produce_partition}
use Rattle.kept_sessions.proofs.Barred.{topic_met, topic_passed}
use Rattle.kept_sessions.proofs.barrier.Barrier.stops_produce.Goals as goal

pub returns-in-Some-stops_topic-clause-stops : goal.returns-in-Some-stops_topic-clause-stops
returns-in-Some-stops_topic-clause-stops g c =
    topic_met c.args.self.now c.args.state.now (values (topic produce_partition) c.loop-topic.topic-iterator) (values (topic produce_partition) c.next.new.self) _ _ c.in-Some-stops_topic.place c.in-Some.ensures.steps c.in-Some-stops_topic.ensures.stops c.loop-topic.invariant

pub loop-topic-preserved : goal.loop-topic-preserved
loop-topic-preserved g c =
    topic_passed c.args.self.now c.args.state.now (values (topic produce_partition) c.loop-topic.topic-iterator) (values (topic produce_partition) c.next.new.self) _ _ c.in-Some.ensures.steps c.in-None-stops_topic.ensures.passes c.loop-topic.invariant
