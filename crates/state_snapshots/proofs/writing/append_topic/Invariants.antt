use Rattle.std.proofs.Common.{drop}
use Rattle.std.specs.List.{flat_map, AllByRecursion}
use Rattle.copy_images.specs.Images.{image_of}
use Rattle.broker_state.specs.Parts.{topic_contents}
use Rattle.state_snapshots.specs.Snapshots.{topic_images, IsCounted}
use Rattle.state_snapshots.specs.Writing.{HasWritten}
use Rattle.state_snapshots.proofs.writing.append_topic.Given as goal

-- the first images are written, and counted
abbrev pub invariant-loop-index : goal.invariant-loop-index
invariant-loop-index g l =
    let cs = (topic_contents l.topic).partitions in
    HasWritten (g.D.Disk.seen l.fn.disk) (g.D.Disk.seen l.disk) (topic_images (topic_contents l.topic)) (flat_map image_of (drop l.index cs))
    × (AllByRecursion IsCounted (drop l.index cs) → AllByRecursion IsCounted cs)
