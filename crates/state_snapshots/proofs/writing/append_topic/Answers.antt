use Rattle.std.proofs.Common.{drop, refl, ◌∙◌, subst, sym}
use Rattle.std.specs.List.{flat_map, AllByRecursion}
use Rattle.std.proofs.Math.ListN.{drop_of_length-le}
use Rattle.copy_images.specs.Images.{image_of}
use Rattle.broker_state.specs.Parts.{topic_contents}
use Rattle.state_snapshots.specs.declared.error.WriteError.TheVariants.{OutOfMemory}
use Rattle.state_snapshots.specs.Snapshots.{topic_images, IsCounted}
use Rattle.state_snapshots.specs.Writing.{StopsWriting}
use Rattle.state_snapshots.proofs.Written.{none_written, image_written, all_written, one_counted, counted}
use Rattle.state_snapshots.proofs.Stopped.{err_is}
use Rattle.state_snapshots.proofs.writing.append_topic.Goals as goal

pub loop-index-init : goal.loop-index-init
loop-index-init g c =
    let all = topic_images (topic_contents c.args.topic.now) in
    (none_written (g.D.Disk.seen c.args.disk.now) all all refl, λ all. all)

pub loop-index-preserved : goal.loop-index-preserved
loop-index-preserved g c =
    let before = g.D.Disk.seen c.args.disk.now in
    let old = g.D.Disk.seen c.loop-index.disk in
    let now = g.D.Disk.seen c.append.new.self in
    let all = topic_images (topic_contents c.args.topic.now) in
    let cs = (topic_contents c.args.topic.now).partitions in
    let i = c.loop-index.index in
    let copy = c.partition_copy.result.now in (
      image_written before old now all cs i copy c.deref.result.now c.partition_copy.ensures (c.deref.ensures.value ∙ c.in_ok-image_into.ensures.gives_the_image) c.in_ok-append.ensures.grows c.loop-index.invariant.0,
      one_counted cs i copy c.partition_copy.ensures (c.in_ok-image_into.ensures.counts_the_ranges, c.in_ok-image_into.ensures.counts_the_batches) c.loop-index.invariant.1,
    )

pub returns-in_err-image_into-clause-stops : goal.returns-in_err-image_into-clause-stops
returns-in_err-image_into-clause-stops g c =
    let cs = (topic_contents c.args.topic.now).partitions in
    err_is c.from_residual.result (StopsWriting (g.D.Disk.seen c.args.disk.now) (g.D.Disk.seen c.loop-index.disk) (g.D.Disk.has_failed c.loop-index.disk) (topic_images (topic_contents c.args.topic.now))) OutOfMemory c.from_residual.ensures.1
    (flat_map image_of (drop c.loop-index.index cs), c.loop-index.invariant.0)

pub returns-clause-writes : goal.returns-clause-writes
returns-clause-writes g c =
    all_written (flat_map image_of) (g.D.Disk.seen c.args.disk.now) (g.D.Disk.seen c.loop-index.disk) (topic_images (topic_contents c.args.topic.now)) (topic_contents c.args.topic.now).partitions c.loop-index.index refl
    (counted c.args.topic.now c.partition_count-index-end.result c.loop-index.index c.partition_count-index-end.ensures c.loop-index-test.false) c.loop-index.invariant.0

pub returns-clause-counts : goal.returns-clause-counts
returns-clause-counts g c =
    let cs = (topic_contents c.args.topic.now).partitions in
    let none = drop_of_length-le cs (counted c.args.topic.now c.partition_count-index-end.result c.loop-index.index c.partition_count-index-end.ensures c.loop-index-test.false) in
    c.loop-index.invariant.1 (subst (AllByRecursion IsCounted) (sym none) tt)
