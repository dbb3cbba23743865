use Rattle.std.proofs.Common.{drop}
use Rattle.std.specs.Prelude.{map}
use Rattle.std.specs.List.{AllByRecursion}
use Rattle.broker_state.specs.Parts.{topic_contents}
use Rattle.state_snapshots.specs.Snapshots.{images_of, IsCountedTopic}
use Rattle.state_snapshots.specs.Writing.{HasWritten}
use Rattle.state_snapshots.proofs.writing.append_images.Given as goal

-- the first topics' images are written, and counted
abbrev pub invariant-loop-topic : goal.invariant-loop-topic
invariant-loop-topic g l =
    HasWritten (g.D.Disk.seen l.fn.disk) (g.D.Disk.seen l.disk) (images_of (map topic_contents l.topics)) (images_of (map topic_contents (drop l.topic-index l.topics)))
    × (AllByRecursion IsCountedTopic (map topic_contents (drop l.topic-index l.topics)) → AllByRecursion IsCountedTopic (map topic_contents l.topics))
