use Rattle.state_snapshots.specs.Restoring.{numbered, HasRestored}
use Rattle.state_snapshots.specs.RestoredParts.{sizes_in}
use Rattle.state_snapshots.proofs.restoring.restore_topic.Given as goal

abbrev pub invariant-loop-partition : goal.invariant-loop-partition
invariant-loop-partition g l =
    let name = l.fn.topic.name.now in
    HasRestored (g.D.Disk.seen l.fn.disk) (numbered name 0 (sizes_in l.fn.topic.partitions)) (numbered name l.index (sizes_in l.partition-iterator)) l.fn.at l.behind l.fn.state l.state
