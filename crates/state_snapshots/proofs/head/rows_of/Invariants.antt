use Rattle.std.proofs.Common.{◌≡◌, ◌++◌, drop}
use Rattle.std.specs.Prelude.{map}
use Rattle.broker_state.specs.Parts.{topic_contents}
use Rattle.snapshots.specs.Writing.{topic_value}
use Rattle.state_snapshots.specs.Snapshots.{topic_said}
use Rattle.state_snapshots.proofs.head.rows_of.Given as goal

-- with those of what is left they are the rows of all
abbrev pub invariant-loop-index : goal.invariant-loop-index
invariant-loop-index g l =
    map topic_value l.rows.items ++ map (λ t. topic_said (topic_contents t)) (drop l.index l.topics)
    ≡ map (λ t. topic_said (topic_contents t)) l.topics
