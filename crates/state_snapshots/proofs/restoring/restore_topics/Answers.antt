use Rattle.std.proofs.Common.{List, [], ap}
use Rattle.std.specs.Prelude.{map}
use Rattle.frame_fields.specs.Fields.{Value}
use Rattle.frame_fields.specs.Types.{topic, topic_request}
use Rattle.snapshots.specs.Heads.{partition_fields, partition_size}
use Rattle.state_snapshots.specs.Restoring.{numbered, announced}
use Rattle.state_snapshots.specs.RestoredParts.{sizes_in, topics_in}
use Rattle.state_snapshots.specs.Faults.{StopsFor}
use Rattle.state_snapshots.proofs.Restored.{more_restored}
use Rattle.state_snapshots.proofs.Stopped.{err_is, stops_later}
use Rattle.state_snapshots.proofs.restoring.restore_topics.Goals as goal

pub loop-topic-preserved : goal.loop-topic-preserved
loop-topic-preserved g c =
    let one = c.in-Some.topic in
    more_restored (g.D.Disk.seen c.args.disk.now) (announced (topics_in c.args.topics.now)) (numbered one.name.now 0 (sizes_in one.partitions)) [] (announced (topics_in c.loop-topic.topic-iterator)) (announced (topics_in c.next.new.self))
    c.args.at c.loop-topic.behind c.in_ok-behind.behind c.args.state.now c.loop-topic.state c.restore_topic.new.state
    (ap (λ (ts : List (Value (topic partition_fields))). announced (map (topic_request partition_fields partition_size) ts)) c.in-Some.ensures.steps) c.loop-topic.invariant c.in_ok-behind.ensures.restores

pub returns-in_err-behind-clause-stops : goal.returns-in_err-behind-clause-stops
returns-in_err-behind-clause-stops g c =
    let seen = g.D.Disk.seen c.args.disk.now in
    let may_fail = g.D.Disk.may_fail c.args.disk.now in
    let one = c.in-Some.topic in
    let all = announced (topics_in c.args.topics.now) in
    let e = c.in_err-behind.field-0.0 in
    err_is c.from_residual.result (StopsFor seen may_fail all c.args.at c.args.state.now c.restore_topic.new.state) e c.from_residual.ensures.1
    (stops_later seen may_fail all (numbered one.name.now 0 (sizes_in one.partitions)) (announced (topics_in c.loop-topic.topic-iterator)) (announced (topics_in c.next.new.self)) c.args.at c.loop-topic.behind c.args.state.now c.loop-topic.state c.restore_topic.new.state e
    (ap (λ (ts : List (Value (topic partition_fields))). announced (map (topic_request partition_fields partition_size) ts)) c.in-Some.ensures.steps) c.loop-topic.invariant c.in_err-behind.ensures.stops)
