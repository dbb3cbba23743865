use Rattle.std.proofs.Common.{◌+◌, drop, refl}
use Rattle.std.specs.Prelude.{map}
use Rattle.broker_state.specs.Parts.{topic_contents}
use Rattle.state_snapshots.specs.Snapshots.{topic_images, images_of, IsCountedTopic}
use Rattle.state_snapshots.specs.Writing.{StopsWriting}
use Rattle.state_snapshots.proofs.Written.{none_written, more_written, all_written, topics_left, topic_counted, all_counted, stops_within}
use Rattle.state_snapshots.proofs.Stopped.{err_is}
use Rattle.state_snapshots.proofs.writing.append_images.Goals as goal

pub loop-topic-init : goal.loop-topic-init
loop-topic-init g c =
    let all = images_of (map topic_contents c.args.topics.now) in
    (none_written (g.D.Disk.seen c.args.disk.now) all all refl, λ all. all)

pub loop-topic-preserved : goal.loop-topic-preserved
loop-topic-preserved g c =
    let before = g.D.Disk.seen c.args.disk.now in
    let old = g.D.Disk.seen c.loop-topic.disk in
    let now = g.D.Disk.seen c.append_topic.new.disk in
    let ts = c.args.topics.now in
    let all = images_of (map topic_contents ts) in
    let i = c.loop-topic.topic-index in
    let t = c.topic-item.result in (
      more_written before old now all (topic_images (topic_contents t)) (images_of (map topic_contents (drop (i + 1) ts))) c.in_ok-append_topic.ensures.writes (topics_left before old all ts i t c.loop-topic-test.true c.topic-item.is c.loop-topic.invariant.0),
      topic_counted ts i t c.loop-topic-test.true c.topic-item.is c.in_ok-append_topic.ensures.counts c.loop-topic.invariant.1,
    )

pub returns-in_err-append_topic-clause-stops : goal.returns-in_err-append_topic-clause-stops
returns-in_err-append_topic-clause-stops g c =
    let before = g.D.Disk.seen c.args.disk.now in
    let old = g.D.Disk.seen c.loop-topic.disk in
    let now = g.D.Disk.seen c.append_topic.new.disk in
    let has_failed = g.D.Disk.has_failed c.append_topic.new.disk in
    let ts = c.args.topics.now in
    let all = images_of (map topic_contents ts) in
    let i = c.loop-topic.topic-index in
    let t = c.topic-item.result in
    let e = c.in_err-append_topic.field-0.0 in
    err_is c.from_residual.result (StopsWriting before now has_failed all) e c.from_residual.ensures.1
    (stops_within before old now has_failed all (topic_images (topic_contents t)) (images_of (map topic_contents (drop (i + 1) ts))) e (topics_left before old all ts i t c.loop-topic-test.true c.topic-item.is c.loop-topic.invariant.0) c.in_err-append_topic.ensures.stops)

pub returns-clause-writes : goal.returns-clause-writes
returns-clause-writes g c =
    all_written (λ ts. images_of (map topic_contents ts)) (g.D.Disk.seen c.args.disk.now) (g.D.Disk.seen c.loop-topic.disk) (images_of (map topic_contents c.args.topics.now)) c.args.topics.now c.loop-topic.topic-index refl c.loop-topic-test.false c.loop-topic.invariant.0

pub returns-clause-counts : goal.returns-clause-counts
returns-clause-counts g c =
    all_counted IsCountedTopic topic_contents c.args.topics.now c.loop-topic.topic-index c.loop-topic-test.false c.loop-topic.invariant.1
