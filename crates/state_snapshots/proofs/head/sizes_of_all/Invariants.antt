use Rattle.std.proofs.Common.{◌≡◌, ◌++◌, drop}
use Rattle.std.specs.Prelude.{map}
use Rattle.std.specs.List.{AllByRecursion}
use Rattle.broker_state.specs.Parts.{topic_contents}
use Rattle.state_snapshots.specs.Snapshots.{image_sizes, SizesFit}
use Rattle.state_snapshots.proofs.head.sizes_of_all.Given as goal

-- with those of what is left they are the sizes of all, and each is an int64
abbrev pub invariant-loop-topic : goal.invariant-loop-topic
invariant-loop-topic g l =
    (map (λ sizes. sizes.items) l.all.items ++ map (λ t. image_sizes (topic_contents t)) (drop l.topic-index l.topics)
    ≡ map (λ t. image_sizes (topic_contents t)) l.topics)
    × (AllByRecursion SizesFit (map topic_contents (drop l.topic-index l.topics)) → AllByRecursion SizesFit (map topic_contents l.topics))
