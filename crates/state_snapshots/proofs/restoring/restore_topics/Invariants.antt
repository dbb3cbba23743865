use Rattle.state_snapshots.specs.Restoring.{announced, HasRestored}
use Rattle.state_snapshots.specs.RestoredParts.{topics_in}
use Rattle.state_snapshots.proofs.restoring.restore_topics.Given as goal

abbrev pub invariant-loop-topic : goal.invariant-loop-topic
invariant-loop-topic g l =
    HasRestored (g.D.Disk.seen l.fn.disk) (announced (topics_in l.fn.topics)) (announced (topics_in l.topic-iterator)) l.fn.at l.behind l.fn.state l.state
